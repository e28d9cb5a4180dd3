-- The bytes of a memory: what they show is the memory, and a memory that was read at a place is the one that the region shows there.
use Rattle.std.specs.Prelude.{◌≡◌, false, List, [], ◌∷◌, ◌++◌, map, ℕ, ◌+◌, ◌*◌, ◌^◌, ◌≤◌, ◌<◌, length, take, drop, get_or, replicate, option_map, if◌then◌else◌, None, Option, Some}
use Rattle.std.proofs.Math.Path.{refl, ap}
use Rattle.std.proofs.Common.{sym, ◌∙◌, subst, append_assoc, append-nil, arith, lit≤, lit<, length-take-le, take_at, drop_at, take_all, get_or-take, get_or-drop, length-drop, length-append, Fits}
use Rattle.std.proofs.Math.Nat.{add-zero}
use Rattle.std.specs.Int.{w64}
use Rattle.rules.specs.Base.{is, Bytes}
use Rattle.rules.specs.Bounds.{IfAny}
use Rattle.rules.specs.Field.{digits}
use Rattle.lib_laws.specs.Splice.{length_digits, Wrote}
use Rattle.lib_laws.specs.Round.{more_digits}
use Rattle.lib_laws.specs.Cell.{num, flag_of, option_num, or_blank, flag_cell, flag_code, number_cells, optional_number, number_shows}
use Rattle.lib_laws.specs.Part.{part_of, part_at}
use Rattle.lib_laws.specs.Chunk.{chunks, joined}
use Rattle.lib_laws.specs.Fields.{cuts, cuts_spelt, length_joined, sum}
use Rattle.lib_laws.specs.Store.{Store, entries, entry_shows, entry_fits}
use Rattle.lib_list.specs.ShortList.{ShortList}
use Rattle.node_addr.specs.declared.Fixed.{Fixed}
use Rattle.gates_types.specs.declared.Replay.{Replay}
use Rattle.gates_types.specs.declared.Silence.{Silence}
use Rattle.gates_types.specs.declared.Memory.{Memory}
use Rattle.gates_types.specs.View.{view_replay, view_replays, view_digest, view_digests, view_silence, view_memory, FitReplay, FitDigest, FitReplays, FitDigests, WideSilence, FitSilence, FitMemory}
use Rattle.node_addr.specs.Layout.{digest_len}
use Rattle.gates_entry.specs.Layout.{entry_ws, silence_ws, at_count, at_counted, at_has_silence, at_has_stamp, at_has_until, at_replays, at_seen, at_silence, at_silence_epoch, at_silence_last, at_stamp, at_until, digest_cap, digests_len, memory_width, replay_cap, replay_width, replays_len, silence_len}
use Rattle.gates_entry.specs.Rows.{AnyBytes, cuts_part, part_here, row_bytes, row_size, row_store, row_shows, entries_show}
use Rattle.gates_entry.specs.View.{replay_of, digest_of, silence_from, silence_of, SilenceCells, FitSilenceCell, fit_zero_silence, entry_from, entry_of, FitCells, FitEntry, FitGates, gate_count, no_memory, memory_at}

-- ---- a replay and a digest at a place
abbrev pub replay_at : Bytes → ℕ → Replay
replay_at s at = record { digest = record { 0 = take 32 (drop at s) }; seen = num (take 8 (drop (at + at_seen) s)) }

abbrev pub replay_in : Bytes → Replay
replay_in c = record { digest = record { 0 = take 32 c }; seen = num (take 8 (drop 32 c)) }

abbrev pub digest_in : Bytes → Fixed 32
digest_in c = record { 0 = c }

-- its 40 bytes are read as it
pub replay_cut : (s : Bytes) (at : ℕ) → replay_at s at ≡ replay_in (take 40 (drop at s))
replay_cut s at = sym (rw (part_of 0 32 40 (drop at s) (lit≤ tt), part_at 40 s at 32 8 (lit≤ tt)))

pub replay_here : (s : Bytes) (at i : ℕ) → i < 8 → replay_at s (at + i * replay_width) ≡ replay_in (get_or (chunks replay_width replay_cap (take replays_len (drop at s))) i [])
replay_here s at i p = replay_cut s (at + i * replay_width) ∙ ap replay_in (part_here replay_width replay_cap s at i p)

-- a row's count, where it stands
pub row_count : (n : ℕ) (s : Bytes) (at : ℕ) → get_or (take (n + 1) (drop at s)) n 0 ≡ get_or s (at + n) 0
row_count n s at = get_or-take (n + 1) (drop at s) n 0 (omega arith) ∙ get_or-drop at s n 0

pub row_few : {P : Bytes → Type 0} (w cap : ℕ) (s : Bytes) (at : ℕ) → Store P w cap (take (cap * w + 1) (drop at s)) → get_or s (at + cap * w) 0 ≤ cap
row_few w cap s at r = rw (row_count (cap * w) s at) at r.kept.small

-- ---- rows written
abbrev pub replay_bytes : Replay → Bytes
replay_bytes e = e.digest.0 ++ digits 8 e.seen

unfoldable pub replays_bytes : ShortList Replay → Bytes
replays_bytes r = row_bytes replay_bytes replay_width replay_cap r.items

unfoldable pub digests_bytes : ShortList (Fixed 32) → Bytes
digests_bytes d = row_bytes view_digest digest_len digest_cap d.items

pub replay_wide : (e : Replay) → FitReplay e → length (replay_bytes e) ≡ 40
replay_wide e f = rw (length-append, f.digest, length_digits 8 e.seen)

pub digest_wide : (d : Fixed 32) → FitDigest d → length (view_digest d) ≡ 32
digest_wide d f = f.size

replay_shows : (e : Replay) → FitReplay e → replay_of (replay_bytes e) ≡ view_replay e
replay_shows e f = rw (take_at e.digest.0 (digits 8 e.seen) 32 f.digest, drop_at e.digest.0 (digits 8 e.seen) 32 f.digest) (
    rw (take_all 8 (digits 8 e.seen) (rw (length_digits 8 e.seen) (lit≤ tt)), more_digits 8 e.seen f.seen.fits))

module _ (r : ShortList Replay) (f : FitReplays r) where
  replays_size : length (replays_bytes r) ≡ replays_len
  unfolding replays_bytes
  replays_size = row_size view_replay replay_of replay_bytes replay_cap replay_width r.items f.small f.each replay_wide

  replays_store : Store AnyBytes replay_width replay_cap (replays_bytes r)
  unfolding replays_bytes
  replays_store = row_store view_replay replay_of replay_bytes replay_cap replay_width r.items f.small f.each replay_wide

  replays_show : entries replay_of replay_width replay_cap (replays_bytes r) ≡ view_replays r
  unfolding replays_bytes
  replays_show = row_shows view_replay replay_of replay_bytes replay_cap replay_width r.items f.small f.each replay_wide replay_shows

module _ (d : ShortList (Fixed 32)) (f : FitDigests d) where
  digests_size : length (digests_bytes d) ≡ digests_len
  unfolding digests_bytes
  digests_size = row_size view_digest digest_of view_digest digest_cap digest_len d.items f.small f.each digest_wide

  digests_store : Store AnyBytes digest_len digest_cap (digests_bytes d)
  unfolding digests_bytes
  digests_store = row_store view_digest digest_of view_digest digest_cap digest_len d.items f.small f.each digest_wide

  digests_show : entries digest_of digest_len digest_cap (digests_bytes d) ≡ view_digests d
  unfolding digests_bytes
  digests_show = row_shows view_digest digest_of view_digest digest_cap digest_len d.items f.small f.each digest_wide (λ x p. refl)

-- ---- a silence written
abbrev silence_fields : Silence → List Bytes
silence_fields x =
    flag_cell x.epoch ∷ digits 8 (or_blank 0 x.epoch) ∷ digits 4 x.count ∷ digits 8 x.last ∷ flag_cell x.until ∷ digits 8 (or_blank 0 x.until) ∷ digests_bytes x.counted ∷ []

unfoldable pub silence_bytes : Silence → Bytes
silence_bytes x = joined (silence_fields x)

-- as the writers put it
abbrev pub silence_row : Silence → Bytes
silence_row x = number_cells x.epoch ++ digits 4 x.count ++ digits 8 x.last ++ number_cells x.until ++ digests_bytes x.counted

regroup : (a b c d e f g : Bytes) → (a ++ b) ++ c ++ d ++ (e ++ f) ++ g ≡ a ++ (b ++ (c ++ (d ++ (e ++ (f ++ g)))))
regroup a b c d e f g = simp append_assoc

silence_spelt : (x : Silence) → silence_row x ≡ silence_bytes x
unfolding silence_bytes joined
silence_spelt x =
    rw append-nil (regroup (flag_cell x.epoch) (digits 8 (or_blank 0 x.epoch)) (digits 4 x.count) (digits 8 x.last) (flag_cell x.until) (digits 8 (or_blank 0 x.until)) (digests_bytes x.counted))

pub put_silence_is : (x : Silence) {xs : Bytes} {at : ℕ} {ys : Bytes} {r : ℕ} → Wrote xs at silence_len (silence_row x) ys r → Wrote xs at silence_len (silence_bytes x) ys r
put_silence_is x {xs} {at} {ys} {r} w = subst (λ (b : Bytes). Wrote xs at silence_len b ys r) (silence_spelt x) w

small : (o : Option ℕ) → IfAny (Fits w64) o → or_blank 0 o < 256 ^ 8
small None h = lit< tt
small (Some v) h = h.fits

module _ (x : Silence) (f : FitSilence x) where
  silence_widths : map length (silence_fields x) ≡ silence_ws
  silence_widths = rw (length_digits 8 (or_blank 0 x.epoch), length_digits 4 x.count, length_digits 8 x.last, length_digits 8 (or_blank 0 x.until), digests_size x.counted f.counted)

  silence_cells : cuts 0 0 silence_ws (silence_bytes x) ≡ silence_fields x
  unfolding silence_bytes
  silence_cells = cuts_spelt (silence_fields x) silence_ws (joined (silence_fields x)) silence_widths refl

  silence_size : length (silence_bytes x) ≡ silence_len
  unfolding silence_bytes sum
  silence_size = length_joined (silence_fields x) ∙ ap sum silence_widths

  fit_silence : FitSilenceCell (silence_bytes x)
  fit_silence = record {
    cells = subst SilenceCells (sym silence_cells) (record {
      epoch = optional_number x.epoch;
      until = optional_number x.until;
      counted = digests_store x.counted f.counted;
    });
  }

  silence_shows : silence_of (silence_bytes x) ≡ view_silence x
  unfolding silence_of
  silence_shows =
      let b = f.wide in
      ap silence_from silence_cells
      ∙ rw (
        number_shows x.epoch (small x.epoch b.epoch),
        more_digits 4 x.count b.count.fits,
        more_digits 8 x.last b.last.fits,
        number_shows x.until (small x.until b.until),
        digests_show x.counted f.counted,
      )

-- a silence behind its flag, zeros where there is none
abbrev silent_cell : Option Silence → Bytes
silent_cell o = or_blank (replicate silence_len 0) (option_map silence_bytes o)

unfoldable pub silent_bytes : Option Silence → Bytes
silent_bytes o = flag_cell o ++ silent_cell o

silent_size : (o : Option Silence) → IfAny FitSilence o → length (silent_cell o) ≡ silence_len
silent_size None f = refl
silent_size (Some x) f = silence_size x f

silent_fit : (o : Option Silence) → IfAny FitSilence o → FitSilenceCell (silent_cell o)
silent_fit None f = fit_zero_silence
silent_fit (Some x) f = fit_silence x f

silent_blank : (o : Option Silence) → flag_of (flag_cell o) ≡ false → silent_cell o ≡ replicate silence_len 0
silent_blank None e = refl
silent_blank (Some x) e = cc

silent_shows : (o : Option Silence) → IfAny FitSilence o → (if flag_of (flag_cell o) then Some (silence_of (silent_cell o)) else None) ≡ option_map view_silence o
silent_shows None f = refl
silent_shows (Some x) f = rw (silence_shows x f)

-- ---- a memory written
abbrev entry_fields : Memory → List Bytes
entry_fields m = m.peer.0 ∷ flag_cell m.stamp ∷ digits 8 (or_blank 0 m.stamp) ∷ flag_cell m.silence ∷ silent_cell m.silence ∷ replays_bytes m.replays ∷ []

unfoldable pub memory_bytes : Memory → Bytes
memory_bytes m = joined (entry_fields m)

-- as the writers put it
abbrev pub memory_row : Memory → Bytes
memory_row m = m.peer.0 ++ number_cells m.stamp ++ silent_bytes m.silence ++ replays_bytes m.replays

memory_spelt : (m : Memory) → memory_row m ≡ memory_bytes m
unfolding memory_bytes silent_bytes joined
memory_spelt m = simp (append_assoc, append-nil)

pub put_memory_is : (m : Memory) {xs : Bytes} {at : ℕ} {ys : Bytes} {r : ℕ} → Wrote xs at memory_width (memory_row m) ys r → Wrote xs at memory_width (memory_bytes m) ys r
put_memory_is m {xs} {at} {ys} {r} w = subst (λ (b : Bytes). Wrote xs at memory_width b ys r) (memory_spelt m) w

module _ (m : Memory) (f : FitMemory m) where
  memory_widths : map length (entry_fields m) ≡ entry_ws
  memory_widths = rw (f.peer, length_digits 8 (or_blank 0 m.stamp), silent_size m.silence f.silence, replays_size m.replays f.replays)

  memory_cells : cuts 0 0 entry_ws (memory_bytes m) ≡ entry_fields m
  unfolding memory_bytes
  memory_cells = cuts_spelt (entry_fields m) entry_ws (joined (entry_fields m)) memory_widths refl

  pub fit_memory : FitEntry (memory_bytes m)
  fit_memory = subst FitCells (sym memory_cells) (record {
    stamp = optional_number m.stamp;
    has_silence = flag_code (is m.silence);
    silence = silent_fit m.silence f.silence;
    quiet = silent_blank m.silence;
    replays = replays_store m.replays f.replays;
  })

  pub memory_shows : IfAny (Fits w64) m.stamp → entry_of (memory_bytes m) ≡ view_memory m
  memory_shows b =
      ap entry_from memory_cells
      ∙ rw (number_shows m.stamp (small m.stamp b), silent_shows m.silence f.silence, replays_show m.replays f.replays)

-- ---- a silence read at a
pub record LoadedSilence (r : Silence) (a : ℕ) (s : Bytes) : Type 0 where
  pub epoch : r.epoch ≡ option_num (take 1 (drop a s)) (take 8 (drop (a + at_silence_epoch) s))
  pub count : r.count ≡ num (take 4 (drop (a + at_count) s))
  pub last : r.last ≡ num (take 8 (drop (a + at_silence_last) s))
  pub until : r.until ≡ option_num (take 1 (drop (a + at_has_until) s)) (take 8 (drop (a + at_has_until + 1) s))
  pub wide : WideSilence r
  pub fits : FitDigests r.counted
  pub counted : r.counted.items ≡ entries digest_in digest_len digest_cap (take digests_len (drop (a + at_counted) s))

module _ (s : Bytes) (at : ℕ) where
  pub silence_cuts : cuts 0 0 silence_ws (take silence_len (drop at s)) ≡ cuts at 0 silence_ws s
  unfolding sum
  silence_cuts = cuts_part silence_len s at 0 silence_ws (lit≤ tt)

  silence_there : FitSilenceCell (take silence_len (drop at s)) → SilenceCells (cuts at 0 silence_ws s)
  silence_there f = subst SilenceCells silence_cuts f.cells

  pub counted_cell : FitSilenceCell (take silence_len (drop at s)) → Store AnyBytes digest_len digest_cap (take digests_len (drop (at + at_counted) s))
  counted_cell f = (silence_there f).counted

  pub silence_loaded : {r : Silence} → LoadedSilence r at s → FitSilence r × (view_silence r ≡ silence_of (take silence_len (drop at s)))
  unfolding silence_of
  silence_loaded {r} l =
      let z : at + 0 ≡ at = add-zero at in
      let u : at + at_has_until + 1 ≡ at + at_until = omega arith in
      let d = entries_show view_digest digest_in digest_len digest_cap (take digests_len (drop (at + at_counted) s)) l.counted in
      let v : view_silence r ≡ silence_from (cuts at 0 silence_ws s) = rw (l.epoch, l.count, l.last, l.until, d, z, u) in
      (record { wide = l.wide; counted = l.fits }, v ∙ ap silence_from (sym silence_cuts))

-- ---- a memory read at a
pub record Loaded (r : Memory) (a : ℕ) (s : Bytes) : Type 0 where
  pub peer : r.peer.0 ≡ take 16 (drop a s)
  pub stamp : r.stamp ≡ option_num (take 1 (drop (a + at_has_stamp) s)) (take 8 (drop (a + at_has_stamp + 1) s))
  pub fit : IfAny FitSilence r.silence
  pub silence : option_map view_silence r.silence
      ≡ (if flag_of (take 1 (drop (a + at_has_silence) s)) then Some (silence_of (take silence_len (drop (a + at_has_silence + 1) s))) else None)
  pub fits : FitReplays r.replays
  pub replays : r.replays.items ≡ entries replay_in replay_width replay_cap (take replays_len (drop (a + at_replays) s))

module _ (s : Bytes) (i : ℕ) (f : FitGates s) (h : i < gate_count s) where
  entry_cuts : cuts 0 0 entry_ws (take memory_width (drop (i * memory_width) s)) ≡ cuts (i * memory_width) 0 entry_ws s
  unfolding sum
  entry_cuts = cuts_part memory_width s (i * memory_width) 0 entry_ws (lit≤ tt)

  pub memory_there : FitCells (cuts (i * memory_width) 0 entry_ws s)
  memory_there = subst FitCells entry_cuts (entry_fits entry_of f i h)

  pub silence_cell_there : FitSilenceCell (take silence_len (drop (i * memory_width + at_has_silence + 1) s))
  silence_cell_there = let q : i * memory_width + at_has_silence + 1 ≡ i * memory_width + at_silence = omega arith in rw q memory_there.silence

  pub memory_here : entry_from (cuts (i * memory_width) 0 entry_ws s) ≡ memory_at s i
  memory_here = ap entry_from (sym entry_cuts) ∙ entry_shows entry_of f i no_memory h

  pub memory_loaded : {r : Memory} → Loaded r (i * memory_width) s → FitMemory r × (view_memory r ≡ memory_at s i)
  memory_loaded {r} l =
      let z : i * memory_width + 0 ≡ i * memory_width = add-zero (i * memory_width) in
      let t : i * memory_width + at_has_stamp + 1 ≡ i * memory_width + at_stamp = omega arith in
      let q : i * memory_width + at_has_silence + 1 ≡ i * memory_width + at_silence = omega arith in
      let d = entries_show view_replay replay_in replay_width replay_cap (take replays_len (drop (i * memory_width + at_replays) s)) l.replays in
      let v : view_memory r ≡ entry_from (cuts (i * memory_width) 0 entry_ws s) = rw (l.peer, l.stamp, l.silence, d, z, t, q) in
      (record { peer = rw l.peer (length-take-le 16 (drop (i * memory_width) s) (rw length-drop (omega arith))); replays = l.fits; silence = l.fit }, v ∙ memory_here)
