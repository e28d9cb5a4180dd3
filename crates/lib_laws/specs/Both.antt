-- Facts that a lemma gives at once, for a record that names them: two to six.

pub both : {A B C : Type 0} → (A → B → C) → A × B → C
both f p = f p.0 p.1

pub both_3 : {A B C D : Type 0} → (A → B → C → D) → A × (B × C) → D
both_3 f p = f p.0 p.1.0 p.1.1

pub both_4 : {A B C D E : Type 0} → (A → B → C → D → E) → A × (B × (C × D)) → E
both_4 f p = f p.0 p.1.0 p.1.1.0 p.1.1.1

pub both_5 : {A B C D E F : Type 0} → (A → B → C → D → E → F) → A × (B × (C × (D × E))) → F
both_5 f p = f p.0 p.1.0 p.1.1.0 p.1.1.1.0 p.1.1.1.1

pub both_6 : {A B C D E F G : Type 0} → (A → B → C → D → E → F → G) → A × (B × (C × (D × (E × F)))) → G
both_6 f p = f p.0 p.1.0 p.1.1.0 p.1.1.1.0 p.1.1.1.1.0 p.1.1.1.1.1
