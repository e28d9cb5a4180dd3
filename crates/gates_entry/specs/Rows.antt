-- A row of parts of one width, and then a byte that says how many are in use: read part by part, written part by part.
use Rattle.std.specs.Prelude.{◌≡◌, refl, List, [], ◌∷◌, ◌++◌, map, ℕ, zero, suc, ◌+◌, ◌-◌, ◌*◌, ◌≤◌, ◌<◌, length, take, drop, get_or, replicate}
use Rattle.std.proofs.Common.{sym, ap, ◌∙◌, append_assoc, append-nil, zero-add, zero-mul, suc-mul, add-mul, mul-le-mul_right, add_comm, add-one, arith, take_at, drop_at, take-suc, take_all, length-take-le, length-append}
use Rattle.std.proofs.lemmas.List.{length-map, length-replicate, map-append}
use Rattle.rules.specs.Base.{Bytes, All}
use Rattle.lib_laws.specs.Shift.{all_append, all_replicate}
use Rattle.lib_laws.specs.Splice.{splice_none, Wrote, wrote_then}
use Rattle.lib_laws.specs.Part.{part_at}
use Rattle.lib_laws.specs.Chunk.{chunks, chunk_at, joined, length_chunks}
use Rattle.lib_laws.specs.Fields.{cuts, sum}
use Rattle.lib_laws.specs.Store.{Store, entries}
use Rattle.lib_list.specs.ShortList.{ShortList}
use Rattle.gates_types.specs.View.{Few}

-- of a part nothing more is asked
abbrev pub AnyBytes : Bytes → Type 0
AnyBytes c = Unit {0}

abbrev pub Wide : ℕ → Bytes → Type 0
Wide w c = length c ≡ w

-- ---- parts of a part
pub cuts_part : (n : ℕ) (s : Bytes) (at o : ℕ) (ws : List ℕ) → o + sum ws ≤ n → cuts 0 o ws (take n (drop at s)) ≡ cuts at o ws s
unfolding sum
cuts_part n s at o [] h = refl
cuts_part n s at o (w ∷ ws) h =
    let z : 0 + o ≡ o = omega arith in
    rw (z, part_at n s at o w (omega arith), cuts_part n s at (o + w) ws (omega arith))

-- ---- room for a part, and what is left behind n of them
row_room : (w i cap : ℕ) → i < cap → i * w + w ≤ cap * w
row_room w i cap p = rw suc-mul at (mul-le-mul_right w p)

pub row_rest : (w n cap : ℕ) → n ≤ cap → n * w + (cap - n) * w ≡ cap * w
row_rest w n cap h = sym (add-mul n (cap - n) w) ∙ ap (λ (c : ℕ). c * w) (omega arith)

-- part i of a row, where it stands
pub part_here : (w cap : ℕ) (s : Bytes) (at i : ℕ) → i < cap → take w (drop (at + i * w) s) ≡ get_or (chunks w cap (take (cap * w + 1) (drop at s))) i []
part_here w cap s at i p =
    let m = row_room w i cap p in
    sym (chunk_at w cap (take (cap * w + 1) (drop at s)) i [] p ∙ part_at (cap * w + 1) s at (i * w) w (omega arith))

-- ---- what was written is read
joined_length : (w : ℕ) (bs : List Bytes) → All (Wide w) bs → length (joined bs) ≡ length bs * w
unfolding joined
joined_length w [] a = rw zero-mul
joined_length w (b ∷ bs) a = rw (length-append, joined_length w bs a.1, a.0, suc-mul) (omega arith)

chunks_back : (w : ℕ) (bs : List Bytes) (rest : Bytes) → All (Wide w) bs → chunks w (length bs) (joined bs ++ rest) ≡ bs
unfolding chunks joined
chunks_back w [] rest a = refl
chunks_back w (b ∷ bs) rest a =
    rw (append_assoc, take_at b (joined bs ++ rest) w a.0, drop_at b (joined bs ++ rest) w a.0) (ap (λ (t : List Bytes). b ∷ t) (chunks_back w bs rest a.1))

last_byte : (s : Bytes) (n : ℕ) → get_or (s ++ (n ∷ [])) (length s) 0 ≡ n
last_byte [] n = refl
last_byte (x ∷ s) n = last_byte s n

all_map : {A B : Type 0} (P : A → Type 0) (Q : B → Type 0) (f : A → B) → ((x : A) → P x → Q (f x)) → (xs : List A) → All P xs → All Q (map f xs)
all_map P Q f h [] a = tt
all_map P Q f h (x ∷ xs) a = (h x a.0, all_map P Q f h xs a.1)

map_alike : {A B : Type 0} (P : A → Type 0) (f g : A → B) → ((x : A) → P x → f x ≡ g x) → (xs : List A) → All P xs → map f xs ≡ map g xs
map_alike P f g h [] a = refl
map_alike P f g h (x ∷ xs) a = rw (h x a.0, map_alike P f g h xs a.1)

map_map : {A B C : Type 0} (f : A → B) (g : B → C) (xs : List A) → map g (map f xs) ≡ map (λ x. g (f x)) xs
map_map f g [] = refl
map_map {C = C} f g (x ∷ xs) = ap (λ (t : List C). g (f x) ∷ t) (map_map f g xs)

all_any_bytes : (xs : List Bytes) → All AnyBytes xs
all_any_bytes [] = tt
all_any_bytes (x ∷ xs) = (tt, all_any_bytes xs)

joined_append : (cs bs : List Bytes) → joined (cs ++ bs) ≡ joined cs ++ joined bs
unfolding joined
joined_append [] bs = refl
joined_append (c ∷ cs) bs = rw (joined_append cs bs, append_assoc)

replicate_add : {A : Type 0} (n m : ℕ) (x : A) → replicate n x ++ replicate m x ≡ replicate (n + m) x
replicate_add zero m x = rw zero-add
replicate_add {A} (suc n) m x = let z : suc n + m ≡ suc (n + m) = omega arith in rw z (ap (λ (t : List A). x ∷ t) (replicate_add n m x))

joined_zeros : (k w : ℕ) → joined (replicate k (replicate w 0)) ≡ replicate (k * w) 0
unfolding joined
joined_zeros zero w = rw zero-mul
joined_zeros (suc k) w = rw (joined_zeros k w, suc-mul, add_comm (k * w) w) (replicate_add w (k * w) 0)

-- a list spelt by enc, each in w bytes: zeros for the places that are left of cap, and the count
abbrev pub row_bytes : {A : Type 0} → (A → Bytes) → ℕ → ℕ → List A → Bytes
row_bytes enc w cap xs = joined (map enc xs) ++ replicate ((cap - length xs) * w) 0 ++ (length xs ∷ [])

-- g shows the bytes as f shows what they spell
module _ {A B : Type 0} (f : A → B) (g : Bytes → B) (enc : A → Bytes) {P : A → Type 0} (cap w : ℕ) (xs : List A) (small : length xs ≤ cap) (each : All P xs) (wide : (x : A) → P x → length (enc x) ≡ w) where
  parts : List Bytes
  parts = map enc xs ++ replicate (cap - length xs) (replicate w 0)

  row_wide : All (Wide w) parts
  unfolding parts
  row_wide =
      all_append (Wide w) (map enc xs) (replicate (cap - length xs) (replicate w 0)) (all_map P (Wide w) enc wide xs each) (all_replicate (Wide w) (cap - length xs) (replicate w 0) (length-replicate w 0))

  row_count : length parts ≡ cap
  unfolding parts
  row_count = rw (length-append, length-map xs enc, length-replicate) (omega arith)

  row_joined : joined (map enc xs) ++ replicate ((cap - length xs) * w) 0 ≡ joined parts
  unfolding parts
  row_joined = rw (joined_append (map enc xs) (replicate (cap - length xs) (replicate w 0)), joined_zeros)

  row_is : row_bytes enc w cap xs ≡ joined parts ++ (length xs ∷ [])
  row_is = ap (λ (t : Bytes). t ++ (length xs ∷ [])) row_joined

  row_length : length (joined parts) ≡ cap * w
  row_length = joined_length w parts row_wide ∙ ap (λ (c : ℕ). c * w) row_count

  row_chunks : chunks w cap (joined parts ++ (length xs ∷ [])) ≡ parts
  row_chunks = ap (λ (c : ℕ). chunks w c (joined parts ++ (length xs ∷ []))) (sym row_count) ∙ chunks_back w parts (length xs ∷ []) row_wide

  row_last : get_or (joined parts ++ (length xs ∷ [])) (cap * w) 0 ≡ length xs
  row_last = ap (λ (i : ℕ). get_or (joined parts ++ (length xs ∷ [])) i 0) (sym row_length) ∙ last_byte (joined parts) (length xs)

  pub row_size : length (row_bytes enc w cap xs) ≡ cap * w + 1
  row_size = rw (row_is, length-append, row_length)

  pub row_store : Store AnyBytes w cap (row_bytes enc w cap xs)
  unfolding parts
  row_store = rw row_is (record {
    size = rw (length-append, row_length);
    kept = rw (row_last, row_chunks) (record {
      small = small;
      size = row_count;
      rest = drop_at (map enc xs) (replicate (cap - length xs) (replicate w 0)) (length xs) (length-map xs enc);
      each = all_any_bytes parts;
    });
  })

  pub row_shows : ((x : A) → P x → g (enc x) ≡ f x) → entries g w cap (row_bytes enc w cap xs) ≡ map f xs
  unfolding parts
  row_shows shows =
      rw (row_is, row_last, row_chunks, take_at (map enc xs) (replicate (cap - length xs) (replicate w 0)) (length xs) (length-map xs enc))
      (map_map enc g xs ∙ map_alike P (λ x. g (enc x)) f shows xs each)

-- ---- the loop that writes a row, and has written i parts
joined_snoc : (bs : List Bytes) (c : Bytes) → joined (bs ++ (c ∷ [])) ≡ joined bs ++ c
unfolding joined
joined_snoc bs c = joined_append bs (c ∷ []) ∙ ap (λ (t : Bytes). joined bs ++ t) (append-nil c)

module _ {A : Type 0} (enc : A → Bytes) (w : ℕ) (xs : List A) where
  -- what is written of the first i
  pub record Rowing (s : Bytes) (at i : ℕ) (l : Bytes) (a : ℕ) : Type 0 where
    pub wrote : Wrote s at (i * w) (joined (map enc (take i xs))) l a

  pub row_start : (s : Bytes) (at : ℕ) → at ≤ length s → Rowing s at 0 s at
  unfolding joined
  row_start s at h = record { wrote = rw zero-mul (record { end = omega arith; size = refl; room = omega arith; is = sym (splice_none s at) }) }

  module _ {s : Bytes} {at i a : ℕ} {l : Bytes} (r : Rowing s at i l a) where
    pub row_turn : {l' : Bytes} {a' : ℕ} (d : A) → i < length xs → Wrote l a w (enc (get_or xs i d)) l' a' → Rowing s at (i + 1) l' a'
    row_turn d h t = record { wrote = rw (add-one, suc-mul, take-suc xs i d h, map-append, joined_snoc) (wrote_then r.wrote t) }

    pub row_end : {m l' : Bytes} {b q n : ℕ} (cap : ℕ) → length xs ≤ cap → i ≡ length xs → n ≡ length xs
        → Wrote l a ((cap - n) * w) (replicate ((cap - n) * w) 0) m b → Wrote m b 1 (n ∷ []) l' q → Wrote s at (cap * w + 1) (row_bytes enc w cap xs) l' q
    row_end cap h e k t u =
        let z = row_rest w (length xs) cap h in
        let y = rw (e, take_all (length xs) xs (omega arith)) at r.wrote in
        rw (← z) (wrote_then (wrote_then y (rw k at t)) (rw k at u))

-- ---- the loop that reads a row, and stands at i: dec makes an item of a part
pub record Fetching {A : Type 0} (P : A → Type 0) (dec : Bytes → A) (w cap : ℕ) (c : Bytes) (i : ℕ) (v : ShortList A) : Type 0 where
  pub items : v.items ≡ map dec (take i (chunks w cap c))
  pub each : All P v.items

pub fetching_start : {A : Type 0} (P : A → Type 0) (dec : Bytes → A) (w cap : ℕ) (c : Bytes) {v : ShortList A} → v.items ≡ [] → Fetching P dec w cap c 0 v
fetching_start P dec w cap c e = record { items = e; each = rw e tt }

module _ {A : Type 0} {P : A → Type 0} {dec : Bytes → A} {w cap : ℕ} {c : Bytes} {i : ℕ} {v : ShortList A} (a : Fetching P dec w cap c i v) where
  pub fetching_length : i ≤ cap → length v.items ≡ i
  fetching_length h = ap length a.items ∙ length-map (take i (chunks w cap c)) dec ∙ length-take-le i (chunks w cap c) (rw length_chunks h)

  pub fetching_turn : {x : A} {u : ShortList A} → i < cap → x ≡ dec (get_or (chunks w cap c) i []) → P x → u.items ≡ v.items ++ (x ∷ []) → Fetching P dec w cap c (i + 1) u
  fetching_turn {x} h e px y = record {
    items = y ∙ rw (a.items, add-one, take-suc (chunks w cap c) i [] (rw length_chunks h), map-append, e);
    each = rw y (all_append P v.items (x ∷ []) a.each (px, tt));
  }

  pub fetching_end : {n : ℕ} → cap ≤ 8 → Store AnyBytes w cap c → n ≡ get_or c (cap * w) 0 → i ≡ n → Few P v × (v.items ≡ entries dec w cap c)
  fetching_end {n} few r e h =
      let s = r.kept.small in
      let l = fetching_length (omega arith) in
      let q : i ≡ get_or c (cap * w) 0 = h ∙ e in
      (record { small = omega arith; each = a.each }, a.items ∙ ap (λ (k : ℕ). map dec (take k (chunks w cap c))) q)

-- what the items of a row show
pub entries_show : {A B : Type 0} (f : A → B) (dec : Bytes → A) (w cap : ℕ) (c : Bytes) {xs : List A} → xs ≡ entries dec w cap c → map f xs ≡ entries (λ d. f (dec d)) w cap c
entries_show f dec w cap c e = ap (map f) e ∙ map_map dec f (take (get_or c (cap * w) 0) (chunks w cap c))
