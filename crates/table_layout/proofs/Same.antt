-- Tables that fit, of bytes, that show the same are the same.
use Rattle.std.specs.Prelude.{◌≡◌, ◌++◌, ℕ, ◌+◌, length, take, drop}
use Rattle.std.proofs.Common.{sym, ap, ◌∙◌, arith, drop-drop, take_all, length-drop, take-append-drop}
use Rattle.rules.specs.Base.{Bytes, All}
use Rattle.rules.specs.Bounds.{IsByte}
use Rattle.rules.specs.Data.{Table}
use Rattle.lib_laws.specs.Shift.{all_take, all_drop}
use Rattle.params.specs.Head.{head_same}
use Rattle.links.specs.Same.{links_same}
use Rattle.legs.specs.Same.{same_legs}
use Rattle.held.specs.Same.{held_same}
use Rattle.gates.specs.Same.{same_gates}
use Rattle.params.specs.Layout.{head_len}
use Rattle.links_entry.specs.Layout.{links_len}
use Rattle.legs_entry.specs.Layout.{legs_len}
use Rattle.held.specs.Layout.{held_len}
use Rattle.gates_entry.specs.Layout.{gates_len}
use Rattle.table_layout.specs.Layout.{at_gates, at_head, at_held, at_legs, at_links, table_len}
use Rattle.table_layout.specs.View.{head_in, links_in, legs_in, held_in, gates_in, view_table, FitTable}

bytes_in : (o w : ℕ) (t : Bytes) → All IsByte t → All IsByte (take w (drop o t))
bytes_in o w t a = all_take IsByte w (drop o t) (all_drop IsByte o t a)

-- the first part of what is left
split : (o w : ℕ) (t : Bytes) → drop o t ≡ take w (drop o t) ++ drop (o + w) t
split o w t = sym (take-append-drop w (drop o t)) ∙ ap (λ (u : Bytes). take w (drop o t) ++ u) (drop-drop w o t)

parts : (t : Bytes) → length t ≡ table_len → t ≡ head_in t ++ (links_in t ++ (legs_in t ++ (held_in t ++ gates_in t)))
parts t z =
    split at_head head_len t
    ∙ ap (λ (u : Bytes). head_in t ++ u) (
    split at_links links_len t
    ∙ ap (λ (u : Bytes). links_in t ++ u) (
    split at_legs legs_len t
    ∙ ap (λ (u : Bytes). legs_in t ++ u) (
    split at_held held_len t
    ∙ ap (λ (u : Bytes). held_in t ++ u) (sym (take_all gates_len (drop at_gates t) (rw length-drop (omega arith))))
    )
    )
    )

glue : {a b c d e p q r s v : Bytes} → a ≡ p → b ≡ q → c ≡ r → d ≡ s → e ≡ v → a ++ (b ++ (c ++ (d ++ e))) ≡ p ++ (q ++ (r ++ (s ++ v)))
glue h i j k l = rw (h, i, j, k, l)

pub same_table : {t u : Bytes} → FitTable t → FitTable u → All IsByte t → All IsByte u → view_table t ≡ view_table u → t ≡ u
unfolding view_table
same_table {t} {u} f g a b e =
    let h : head_in t ≡ head_in u = head_same f.head g.head (bytes_in at_head head_len t a) (bytes_in at_head head_len u b) (ap (λ (x : Table). x.me) e) (ap (λ (x : Table). x.params) e) (ap (λ (x : Table). x.next) e) in
    let i : links_in t ≡ links_in u = links_same f.links g.links (bytes_in at_links links_len t a) (bytes_in at_links links_len u b) (ap (λ (x : Table). x.links) e) in
    let j : legs_in t ≡ legs_in u = same_legs f.legs g.legs (bytes_in at_legs legs_len t a) (bytes_in at_legs legs_len u b) (ap (λ (x : Table). x.legs) e) in
    let k : held_in t ≡ held_in u = held_same f.held g.held (bytes_in at_held held_len t a) (bytes_in at_held held_len u b) (ap (λ (x : Table). x.held) e) in
    let l : gates_in t ≡ gates_in u = same_gates f.gates g.gates (bytes_in at_gates gates_len t a) (bytes_in at_gates gates_len u b) (ap (λ (x : Table). x.gates) e) in
    parts t f.size ∙ glue h i j k l ∙ sym (parts u g.size)
