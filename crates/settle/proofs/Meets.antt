-- From what table and input give to the entries' contracts.
use Rattle.std.specs.Prelude.{◌≡◌, refl, Bool, true, false, [], ◌∷◌, ◌++◌, ℕ, suc, ◌≤◌, ◌<◌, length, drop, get_or, if◌then◌else◌, None, Option, Some, Ok, Err}
use Rattle.std.proofs.Math.Path.{sym}
use Rattle.std.proofs.Common.{ap, ◌∙◌, subst, zero-add, arith, lt-ltb, le-ltb, ne_eqb, Fits}
use Rattle.std.specs.Int.{w8}
use Rattle.rules.specs.Base.{option, Bytes, All}
use Rattle.rules.specs.Data.{Call}
use Rattle.rules.specs.Time.{out_of_range}
use Rattle.rules.specs.Settle.{refuse, step}
use Rattle.rules.specs.Record.{Timed, finished, read_call}
use Rattle.rules.specs.Entry.{Made, new_table}
use Rattle.rules.specs.Entry as rule
use Rattle.rules.specs.Bounds.{IsByte, Bounds}
use Rattle.rules.proofs.Bounds.{bounds_new, bounds_call}
use Rattle.rules.proofs.Size as size
use Rattle.lib_laws.specs.Splice.{splice}
use Rattle.params.specs.View.{view_params}
use Rattle.refusal.specs.declared.Refusal.{Refusal}
use Rattle.refusal.specs.Code.{code}
use Rattle.refusal.proofs.Codes.{code_some}
use Rattle.input_new.specs.Begin.{News, refusal_of}
use Rattle.input_new.specs.declared.NewRefusal.{NewRefusal}
use Rattle.input_new.proofs.Begin.{news_start}
use Rattle.input_new.specs.declared.New as news
use Rattle.table_layout.specs.View.{view_table, Told}
use Rattle.call_contract.specs.Did.{Space, Ruled, ruled_refused, ruled_is, space_result}
use Rattle.call_contract.specs.Sound.{Ready, sound_bounds}
use Rattle.input_call.specs.Read.{kind_fields}
use Rattle.input_frame.specs.Frame.{Opens}
use Rattle.input_frame.specs.declared.Header as headers
use Rattle.call_kinds.specs.Ask.{answered, Asked, Answers}
use Rattle.settle.specs.Layout.{buffer_len}
use Rattle.settle.specs.Contract.{Left, Begun, ruled, ruled_bytes, Called}

pub ready : {t : Bytes} → Left t → Ready t
ready {t} l = record { fit = l.fit; sound = sound_bounds (view_table t) l.bounds }

-- ---- the rules' call, by what was read

pub short : (t s o : Bytes) → length o < buffer_len → refuse 2 (view_table t) ≡ ruled t s o
unfolding rule.call
short t s o h = rw (lt-ltb (length o) buffer_len h)

module _ (t o : Bytes) (h : buffer_len ≤ length o) {s : Bytes} {p : Option headers.Header} (w : Opens s p) where
  pub unread : p ≡ None → refuse 3 (view_table t) ≡ ruled t s o
  unfolding rule.call
  unread q = let e : read_call s ≡ None = rw q at w.is in rw (le-ltb (length o) buffer_len h, e)

  module _ {f : headers.Header} (q : p ≡ Some f) where
    abbrev timed : Call → Timed
    timed c = record { now = f.now; call = c }

    -- the call that the fields say
    said : (x : Option Call) → option (option x None λ c. Some (timed c)) (refuse 3 (view_table t)) (λ c. step c.now c.call (view_table t)) ≡ option x (refuse 3 (view_table t)) λ c. step f.now c (view_table t)
    said None = refl
    said (Some c) = refl

    pub reads : answered (kind_fields f.kind) f.now f.at s (view_table t) ≡ ruled t s o
    unfolding rule.call answered
    reads =
        let e : read_call s ≡ option (finished (kind_fields f.kind (drop f.at s))) None (λ c. Some (timed c)) = rw q at w.is in
        sym (rw (le-ltb (length o) buffer_len h, e) (said (finished (kind_fields f.kind (drop f.at s)))))

-- such a buffer has room for it
pub space : {t o : Bytes} (s : Bytes) → All IsByte s → Left t → buffer_len ≤ length o → Space o 0 (ruled t s o).step.outs
space {t} {o} s b l h = record { room = omega (arith, h, size.written s (length o) (view_table t) b l.bounds) }

-- ---- call

pub called : {t o t' o' : Bytes} {n k : ℕ} (s : Bytes) → All IsByte s → Left t → Ruled t o 0 t' o' n k (ruled t s o) → Called t s o t' o' n k
unfolding splice
called {t} {o} {k = k} s b l r =
    let w = r.did.puts.wrote in
    let e : k ≡ length (ruled_bytes t s o) = w.end ∙ zero-add (length (ruled_bytes t s o)) in
    record {
      number = r.number;
      refused = r.kept;
      table = r.did.table.shows;
      left = record { fit = r.did.table.fit; bounds = subst Bounds (sym r.did.table.shows) (bounds_call s (length o) (view_table t) b l.bounds) };
      size = e;
      bytes = w.is ∙ ap (λ (i : ℕ). ruled_bytes t s o ++ drop i o) (sym w.end);
    }

-- 2: the buffer is short
pub call_short : {t o : Bytes} (s : Bytes) → All IsByte s → Left t → length o < buffer_len → Called t s o t o 2 0
call_short {t} {o} s b l h = called s b l (ruled_is (ruled_refused 2 l.fit (omega arith)) (short t s o h))

module _ {t s o : Bytes} (b : All IsByte s) (l : Left t) (h : buffer_len ≤ length o) {p : Option headers.Header} (w : Opens s p) where
  -- 3: no call was read
  pub call_unread : p ≡ None → Called t s o t o 3 0
  call_unread q = called s b l (ruled_is (ruled_refused 3 l.fit (omega arith)) (unread t o h w q))

  -- a call was read: its step
  module _ {f : headers.Header} (q : p ≡ Some f) where
    pub call_asked : Asked (kind_fields f.kind) f.now f.at s t o
    call_asked = record { ready = ready l; start = rw q at w.room; space = space_result (space s b l h) (sym (reads t o h w q)) }

    pub call_done : {t' o' : Bytes} {n m : ℕ} → Answers (kind_fields f.kind) f.now f.at s t o t' o' n m → Called t s o t' o' n m
    call_done a = called s b l (ruled_is a.ruled (reads t o h w q))

-- ---- new

-- settings that were accepted are within range
pub in_range : {s : Bytes} {r : news.New} → News s (Ok r) → out_of_range (view_params r.params) ≡ false
in_range {r = r} w = go (out_of_range (view_params r.params)) (w.number ∙ rw w.is.1)
  where
    go : (o : Bool) → ◌≡◌ {A = ℕ} 0 (if o then 1 else 0) → o ≡ false
    go true h = absurd (omega (arith, h))
    go false h = refl

pub begun_made : {t s t' : Bytes} {r : news.New} → News s (Ok r) → All IsByte s → Told t' (new_table r.me.0 r.first (view_params r.params)) → Begun t s t' 0
begun_made {s = s} {t'} {r} w b k =
    let m : rule.new s ≡ Made (view_table t') = news_start (Ok r) w ∙ rw k.shows in
    record { is = m; refused = λ z. absurd (z refl); left = λ z. record { fit = k.fit; bounds = bounds_new s (view_table t') b m } }

pub begun_refused : {t s : Bytes} {e : NewRefusal} → News s (Err e) → Begun t s t (code (refusal_of e))
begun_refused {e = e} w =
    let h : code (refusal_of e) ≡ 0 → ⊥ = λ z. omega (arith, z, code_some (refusal_of e)) in
    record { is = news_start (Err e) w ∙ rw (ne_eqb (code (refusal_of e)) 0 h); refused = λ z. refl; left = λ z. absurd (h z) }

-- ---- what is known of each byte of a slice
pub all_bytes : (s : Bytes) → ((i : ℕ) → Fits w8 (get_or s i 0)) → All IsByte s
all_bytes [] f = tt
all_bytes (b ∷ s) f = ((f 0).fits, all_bytes s (λ i. f (suc i)))
