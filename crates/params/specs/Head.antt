-- The head region: the node's own address, the settings, the next link number. What it shows, when it fits, and that heads which show the same are the same.
use Rattle.std.specs.Prelude.{◌≡◌, false, List, [], ◌∷◌, ◌++◌, map, ℕ, ◌+◌, ◌≤◌, ◌<◌, take, drop, get_or}
use Rattle.std.proofs.Common.{sym, ◌∙◌, append_assoc, append-nil, arith, lit≤, lit<, drop-drop, take_all, length-take, length-drop, take-append-drop, Fits}
use Rattle.std.proofs.Math.Path.{ap}
use Rattle.std.proofs.Math.ListN.{length}
use Rattle.std.specs.Int.{w32, w64}
use Rattle.rules.specs.Base.{Bytes, All}
use Rattle.rules.specs.Bounds.{IsByte}
use Rattle.rules.specs.Field.{digits}
use Rattle.rules.specs.Time.{Params, out_of_range}
use Rattle.lib_laws.specs.Shift.{all_take, all_drop, all_at}
use Rattle.lib_laws.specs.Splice.{length_splice, length_digits, Wrote}
use Rattle.lib_laws.specs.Round.{more_digits}
use Rattle.lib_laws.specs.Part.{part_before, part_after, part_same}
use Rattle.lib_laws.specs.Chunk.{joined}
use Rattle.lib_laws.specs.Fields.{cuts, sum, cuts_spelt, length_joined}
use Rattle.lib_laws.specs.Cell.{num, byte_of, num_same, Code, byte_same}
use Rattle.lib_laws.specs.Same.{num_cells, cells_same}
use Rattle.node_addr.specs.Alike.{part_of, byte_here}
use Rattle.params.specs.Layout.{settings_ws, at_next, at_settings, head_len, settings_len}
use Rattle.params.specs.View.{view_params, in_range_says}
use Rattle.params.specs.declared.Params as params

-- ---- what it shows

-- unheard, interval, silentbase, silentcap, horizon, handshake, resend, silent, resends, replays, counted, pending
abbrev pub settings_from : List Bytes → Params
settings_from fs = record {
  unheard = num (get_or fs 0 []);
  interval = num (get_or fs 1 []);
  replays = byte_of (get_or fs 9 []);
  silent = num (get_or fs 7 []);
  silentbase = num (get_or fs 2 []);
  silentcap = num (get_or fs 3 []);
  horizon = num (get_or fs 4 []);
  counted = byte_of (get_or fs 10 []);
  handshake = num (get_or fs 5 []);
  resend = num (get_or fs 6 []);
  resends = num (get_or fs 8 []);
  pending = num (get_or fs 11 []);
}

abbrev pub view_me : Bytes → Bytes
view_me s = take 16 s

unfoldable pub params_of : Bytes → Params
params_of s = settings_from (cuts 0 0 settings_ws (take settings_len (drop at_settings s)))

abbrev pub view_next : Bytes → ℕ
view_next s = num (take 8 (drop at_next s))

-- the settings are within range
pub record FitHead (s : Bytes) : Type 0 where
  pub size : length s ≡ head_len
  pub some_counted : 1 ≤ (params_of s).counted
  pub counted : (params_of s).counted ≤ 8
  pub replays : (params_of s).replays ≤ 8

-- a head that shows so
pub record Shows (s who : Bytes) (c : Params) (n : ℕ) : Type 0 where
  pub size : length s ≡ head_len
  pub me : view_me s ≡ who
  pub params : params_of s ≡ c
  pub next : view_next s ≡ n

-- ---- where the settings stand
field : (s : Bytes) (o w : ℕ) → o + w ≤ settings_len → take w (drop o (take settings_len (drop at_settings s))) ≡ take w (drop (16 + o) s)
field s o w h = part_of o w settings_len (drop at_settings s) h ∙ rw (drop-drop o 16 s)

pub settings_at : (s : Bytes) → params_of s ≡ settings_from (cuts 16 0 settings_ws s)
unfolding params_of
settings_at s = rw (
  field s 0 8 (lit≤ tt),
  field s 8 8 (lit≤ tt),
  field s 16 8 (lit≤ tt),
  field s 24 8 (lit≤ tt),
  field s 32 8 (lit≤ tt),
  field s 40 8 (lit≤ tt),
  field s 48 8 (lit≤ tt),
  field s 56 4 (lit≤ tt),
  field s 60 4 (lit≤ tt),
  field s 64 1 (lit≤ tt),
  field s 65 1 (lit≤ tt),
  field s 66 8 (lit≤ tt),
)

-- ---- what is written
abbrev pub spans_cell : params.Params → Bytes
spans_cell p = (((((digits 8 p.unheard ++ digits 8 p.interval) ++ digits 8 p.silentbase) ++ digits 8 p.silentcap) ++ digits 8 p.horizon) ++ digits 8 p.handshake) ++ digits 8 p.resend

abbrev pub counts_cell : params.Params → Bytes
counts_cell p = (((digits 4 p.silent ++ digits 4 p.resends) ++ (p.replays ∷ [])) ++ (p.counted ∷ [])) ++ digits 8 p.pending

unfoldable pub settings_cell : params.Params → Bytes
settings_cell p = spans_cell p ++ counts_cell p

abbrev settings_fields : params.Params → List Bytes
settings_fields p =
    digits 8 p.unheard
    ∷ digits 8 p.interval
    ∷ digits 8 p.silentbase
    ∷ digits 8 p.silentcap
    ∷ digits 8 p.horizon
    ∷ digits 8 p.handshake
    ∷ digits 8 p.resend
    ∷ digits 4 p.silent
    ∷ digits 4 p.resends
    ∷ (p.replays ∷ [])
    ∷ (p.counted ∷ [])
    ∷ digits 8 p.pending
    ∷ []

settings_widths : (p : params.Params) → map length (settings_fields p) ≡ settings_ws
settings_widths p = rw (
  length_digits 8 p.unheard,
  length_digits 8 p.interval,
  length_digits 8 p.silentbase,
  length_digits 8 p.silentcap,
  length_digits 8 p.horizon,
  length_digits 8 p.handshake,
  length_digits 8 p.resend,
  length_digits 4 p.silent,
  length_digits 4 p.resends,
  length_digits 8 p.pending,
)

settings_joined : (p : params.Params) → settings_cell p ≡ joined (settings_fields p)
unfolding settings_cell joined
settings_joined p = simp (append_assoc, append-nil)

pub settings_length : (p : params.Params) → length (settings_cell p) ≡ settings_len
unfolding sum
settings_length p = ap length (settings_joined p) ∙ length_joined (settings_fields p) ∙ ap sum (settings_widths p)

pub settings_written : (p : params.Params) {xs : Bytes} {at : ℕ} {ys : Bytes} {r : ℕ} → Wrote xs at settings_len (spans_cell p ++ counts_cell p) ys r → Wrote xs at settings_len (settings_cell p) ys r
unfolding settings_cell
settings_written p w = w

-- each number fits its type
pub record Within (p : params.Params) : Type 0 where
  pub unheard : Fits w64 p.unheard
  pub interval : Fits w64 p.interval
  pub silent : Fits w32 p.silent
  pub silentbase : Fits w64 p.silentbase
  pub silentcap : Fits w64 p.silentcap
  pub horizon : Fits w64 p.horizon
  pub handshake : Fits w64 p.handshake
  pub resend : Fits w64 p.resend
  pub resends : Fits w32 p.resends
  pub pending : Fits w64 p.pending

settings_shows : (p : params.Params) → Within p → settings_from (cuts 0 0 settings_ws (settings_cell p)) ≡ view_params p
settings_shows p b =
    ap settings_from (cuts_spelt (settings_fields p) settings_ws (settings_cell p) (settings_widths p) (settings_joined p))
    ∙ rw (
      more_digits 8 p.unheard b.unheard.fits,
      more_digits 8 p.interval b.interval.fits,
      more_digits 8 p.silentbase b.silentbase.fits,
      more_digits 8 p.silentcap b.silentcap.fits,
      more_digits 8 p.horizon b.horizon.fits,
      more_digits 8 p.handshake b.handshake.fits,
      more_digits 8 p.resend b.resend.fits,
      more_digits 4 p.silent b.silent.fits,
      more_digits 4 p.resends b.resends.fits,
      more_digits 8 p.pending b.pending.fits,
    )

-- ---- a head after a write
module _ {s ys : Bytes} {r : ℕ} (z : length s ≡ head_len) where
  pub me_written : {who : Bytes} → Wrote s 0 16 who ys r → Shows ys who (params_of s) (view_next s)
  unfolding params_of
  me_written {who} w =
      let h : length who ≡ 16 = w.size in
      rw w.is (
      record {
        size = length_splice s 0 who (omega arith) ∙ z;
        me = part_same 16 s 0 who (omega arith) h;
        params = rw (part_after 16 settings_len s 0 who (omega arith) (omega arith));
        next = rw (part_after at_next 8 s 0 who (omega arith) (omega arith));
      }
      )

  pub params_written : {p : params.Params} → Wrote s 16 settings_len (settings_cell p) ys r → Within p → Shows ys (view_me s) (view_params p) (view_next s)
  unfolding params_of
  params_written {p} w b =
      let h : length (settings_cell p) ≡ settings_len = w.size in
      rw w.is (
      record {
        size = length_splice s 16 (settings_cell p) (omega arith) ∙ z;
        me = part_before 0 16 s 16 (settings_cell p) (lit≤ tt) (omega arith);
        params = ap (λ (c : Bytes). settings_from (cuts 0 0 settings_ws c)) (part_same settings_len s 16 (settings_cell p) (omega arith) h) ∙ settings_shows p b;
        next = rw (part_after at_next 8 s 16 (settings_cell p) (omega arith) (omega arith));
      }
      )

  pub next_written : {n : ℕ} → Wrote s at_next 8 (digits 8 n) ys r → Fits w64 n → Shows ys (view_me s) (params_of s) n
  unfolding params_of
  next_written {n} w b =
      let h : length (digits 8 n) ≡ 8 = w.size in
      rw w.is (
      record {
        size = length_splice s at_next (digits 8 n) (omega arith) ∙ z;
        me = part_before 0 16 s at_next (digits 8 n) (lit≤ tt) (omega arith);
        params = rw (part_before 16 settings_len s at_next (digits 8 n) (lit≤ tt) (omega arith));
        next = rw (part_same 8 s at_next (digits 8 n) (omega arith) h) (more_digits 8 n b.fits);
      }
      )

pub shows_keeps : {s t who : Bytes} {n : ℕ} → FitHead s → Shows t who (params_of s) n → FitHead t
shows_keeps f h = record { size = h.size; some_counted = rw h.params f.some_counted; counted = rw h.params f.counted; replays = rw h.params f.replays }

pub shows_fit : {t who : Bytes} {c : Params} {n : ℕ} → out_of_range c ≡ false → Shows t who c n → FitHead t
shows_fit {c = c} e h =
    let r : (1 ≤ c.counted) × (c.counted ≤ 8) × (c.replays ≤ 8) = in_range_says c e in
    record { size = h.size; some_counted = rw h.params r.0; counted = rw h.params r.1; replays = rw h.params r.2 }

-- ---- heads that show the same are the same
module _ (c d : Bytes) (h : length c ≡ settings_len) (k : length d ≡ settings_len) (x : All IsByte c) (y : All IsByte d) where
  code_at : (s : Bytes) (o : ℕ) → o < length s → All IsByte s → Code 256 (take 1 (drop o s))
  code_at s o q a = record { size = simp (length-take, length-drop) (omega arith); low = rw (← byte_here s o) (all_at IsByte s o 0 a q) }

  one_same : (o : ℕ) → o < settings_len → byte_of (take 1 (drop o c)) ≡ byte_of (take 1 (drop o d)) → take 1 (drop o c) ≡ take 1 (drop o d)
  one_same o q e = byte_same (code_at c o (omega arith) x) (code_at d o (omega arith) y) e

  settings_same : settings_from (cuts 0 0 settings_ws c) ≡ settings_from (cuts 0 0 settings_ws d) → c ≡ d
  unfolding sum
  settings_same e =
      cells_same 0 settings_ws c d h k
      (rw (
        num_cells 8 0 c d (omega arith) (omega arith) x y (ap (λ (p : Params). p.unheard) e),
        num_cells 8 8 c d (omega arith) (omega arith) x y (ap (λ (p : Params). p.interval) e),
        num_cells 8 16 c d (omega arith) (omega arith) x y (ap (λ (p : Params). p.silentbase) e),
        num_cells 8 24 c d (omega arith) (omega arith) x y (ap (λ (p : Params). p.silentcap) e),
        num_cells 8 32 c d (omega arith) (omega arith) x y (ap (λ (p : Params). p.horizon) e),
        num_cells 8 40 c d (omega arith) (omega arith) x y (ap (λ (p : Params). p.handshake) e),
        num_cells 8 48 c d (omega arith) (omega arith) x y (ap (λ (p : Params). p.resend) e),
        num_cells 4 56 c d (omega arith) (omega arith) x y (ap (λ (p : Params). p.silent) e),
        num_cells 4 60 c d (omega arith) (omega arith) x y (ap (λ (p : Params). p.resends) e),
        one_same 64 (lit< tt) (ap (λ (p : Params). p.replays) e),
        one_same 65 (lit< tt) (ap (λ (p : Params). p.counted) e),
        num_cells 8 66 c d (omega arith) (omega arith) x y (ap (λ (p : Params). p.pending) e),
      ))

head_whole : (s : Bytes) → length s ≡ head_len → s ≡ take 16 s ++ (take settings_len (drop at_settings s) ++ take 8 (drop at_next s))
head_whole s h =
    sym (take-append-drop at_settings s)
    ∙ ap (λ (u : Bytes). take 16 s ++ u) (
    sym (take-append-drop settings_len (drop at_settings s))
    ∙ ap (λ (u : Bytes). take settings_len (drop at_settings s) ++ u) (drop-drop settings_len 16 s ∙ sym (take_all 8 (drop at_next s) (rw length-drop (omega arith))))
    )

pub head_same : {s t : Bytes} → FitHead s → FitHead t → All IsByte s → All IsByte t → view_me s ≡ view_me t → params_of s ≡ params_of t → view_next s ≡ view_next t → s ≡ t
unfolding params_of
head_same {s} {t} a b x y m p n =
    let c : take settings_len (drop at_settings s) ≡ take settings_len (drop at_settings t) = settings_same
    (take settings_len (drop at_settings s))
    (take settings_len (drop at_settings t))
    (simp (length-take, length-drop) (omega (arith, a.size)))
    (simp (length-take, length-drop) (omega (arith, b.size)))
    (all_take IsByte settings_len (drop at_settings s) (all_drop IsByte 16 s x))
    (all_take IsByte settings_len (drop at_settings t) (all_drop IsByte 16 t y))
    p in
    let e : take 8 (drop at_next s) ≡ take 8 (drop at_next t) = num_same
    (take 8 (drop at_next s))
    (take 8 (drop at_next t))
    (all_take IsByte 8 (drop at_next s) (all_drop IsByte at_next s x))
    (all_take IsByte 8 (drop at_next t) (all_drop IsByte at_next t y))
    (simp (length-take, length-drop) (omega (arith, a.size, b.size)))
    n in
    head_whole s a.size ∙ rw (m, c, e) (sym (head_whole t b.size))
