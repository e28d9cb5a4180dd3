-- A map inside the entries of a map: each entry has, at one offset, a region of its own.
use Rattle.std.specs.Prelude.{ℕ, suc, ◌+◌, ◌*◌, ◌≤◌, ◌<◌, ◌≡◌, refl, List, [], ◌++◌, length, take, drop, get_or, set}
use Rattle.std.proofs.Common.{sym, ap, ◌∙◌, suc-mul, mul-le-mul_right, arith}
use Rattle.lib_laws.specs.Shift.{shown, fit_at}
use Rattle.lib_laws.specs.Splice.{splice, Wrote}
use Rattle.lib_laws.specs.Part.{put_is}
use Rattle.lib_laws.specs.Chunk.{chunks, chunk_size}
use Rattle.lib_laws.specs.Store.{Store, entries, changed_is}
use Rattle.lib_laws.specs.Fields.{field_at}

-- an entry of w bytes, kept by P and shown by f, has at offset o a map of k entries of v bytes, kept by Q and shown by g.
-- inner is that map in what the entry shows, and put sets it there
pub record Inner {B C : Type 0} (P : List ℕ → Type 0) (f : List ℕ → B) (w o : ℕ) (Q : List ℕ → Type 0) (g : List ℕ → C) (v k : ℕ) (inner : B → List C) (put : List C → B → B) : Type 0 where
  pub room : o + (k * v + 1) ≤ w
  pub holds : (c : List ℕ) → length c ≡ w → P c → Store Q v k (take (k * v + 1) (drop o c))
  pub shows : (c : List ℕ) → length c ≡ w → inner (f c) ≡ entries g v k (take (k * v + 1) (drop o c))
  pub keeps : (c ys : List ℕ) → length c ≡ w → P c → Store Q v k ys → P (splice c o ys)
  pub puts : (c ys : List ℕ) → length c ≡ w → length ys ≡ k * v + 1 → f (splice c o ys) ≡ put (entries g v k ys) (f c)

module _ {B C : Type 0} {P : List ℕ → Type 0} {f : List ℕ → B} {w o : ℕ} {Q : List ℕ → Type 0} {g : List ℕ → C} {v k : ℕ} {inner : B → List C} {put : List C → B → B}
    (n : Inner P f w o Q g v k inner put) {cap : ℕ} {s : List ℕ} (r : Store P w cap s) (i : ℕ) (h : i < get_or s (cap * w) 0) where
  -- the region inside entry i, where it stands
  pub inner_store : Store Q v k (take (k * v + 1) (drop (i * w + o) s))
  inner_store =
      rw (← field_at w cap s i [] o (k * v + 1) (omega arith) n.room (omega arith))
      (n.holds (get_or (chunks w cap s) i []) (chunk_size w cap s i [] (omega arith) (omega arith)) (fit_at f i [] r.kept h))

  -- and what it shows
  pub inner_shows : (d : B) → entries g v k (take (k * v + 1) (drop (i * w + o) s)) ≡ inner (get_or (entries f w cap s) i d)
  inner_shows d =
      ap (entries g v k) (sym (field_at w cap s i [] o (k * v + 1) (omega arith) n.room (omega arith)))
      ∙ sym (n.shows (get_or (chunks w cap s) i []) (chunk_size w cap s i [] (omega arith) (omega arith)))
      ∙ ap inner (shown f i [] d r.kept h)

  -- it was lent, and ys is put back
  pub inner_put : {ys l : List ℕ} (d : B) → Store Q v k ys → l ≡ take (i * w + o) s ++ (ys ++ drop (k * v + 1) (drop (i * w + o) s))
      → Store P w cap l × (entries f w cap l ≡ set (entries f w cap s) i (put (entries g v k ys) (get_or (entries f w cap s) i d)))
  inner_put {ys} {l} d q e =
      let m : suc i * w ≤ cap * w = mul-le-mul_right w (omega arith) in
      let m1 : suc i * w ≡ i * w + w = suc-mul i w in
      let x : length ys ≡ k * v + 1 = q.size in
      let a = n.room in
      let z : Wrote s (i * w + o) (k * v + 1) ys l (i * w + o + (k * v + 1)) =
      record { end = refl; size = x; room = omega arith; is = e ∙ put_is (i * w + o) (k * v + 1) s ys x } in
      changed_is f (put (entries g v k ys)) i o d z r h n.room (λ c y p. n.keeps c ys y p q) (λ c y. n.puts c ys y x)
