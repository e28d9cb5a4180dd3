-- A dial is complete: the peer is held, or the holder moves. What was written and what the table shows make the step.
use Rattle.std.specs.Prelude.{◌≡◌, true, List, [], ◌∷◌, ℕ, ◌+◌, ◌≤◌, length, None}
use Rattle.std.proofs.Common.{sym, ap, ◌∙◌}
use Rattle.rules.specs.Base.{Bytes, alter}
use Rattle.rules.specs.Data.{Pair, APeer, LinkRec, Leg, Held, Table, Transition, Move, Fresh, FromCarry, Installed, Output, Install, Reset, Retire}
use Rattle.rules.specs.Links.{hold, retired, retiring}
use Rattle.rules.specs.Output.{pairs_bytes, output_record}
use Rattle.rules.specs.Settle.{with_links, with_held, writes, drop_leg, named, dialed, moved_to, moveto}
use Rattle.lib_laws.specs.Splice.{Wrote}
use Rattle.output_record.specs.Write.{puts_one}
use Rattle.table_layout.specs.View.{view_table, Told}
use Rattle.table_layout.proofs.Told.{told_then}
use Rattle.call_contract.specs.Did.{Space, Did, space_is, did_is, space_head, space_tail, puts_cons}
use Rattle.call_sent.specs.Install.{install_fits, reset_fits, seated}

-- ---- the peer is held, heard
module _ (now : ℕ) (p : Bytes) (g : Leg) (epoch : ℕ) (from : Pair) (how : Transition) (x : Table) {n l : ℕ} (e : n ≡ g.link) (q : l ≡ g.lease) where
  abbrev holder : Held
  holder = record { peer = p; link = n; epoch = epoch; current = from; heard = true; installed = now; last = None; setup = None }

  abbrev said : Installed
  said = record { peer = p; link = n; pair = from; build = Fresh; initiator = true; lease = l }

  dialed_is : dialed now p g epoch from how x ≡ writes (Install said ∷ Reset p how ∷ []) (seated holder x)
  unfolding dialed
  dialed_is = rw (e, q)

  pub dialed_install : {o : Bytes} {at len : ℕ} → Space o at (dialed now p g epoch from how x).outs → length p ≡ 16 → length from.addr ≡ len → at + (39 + len) ≤ length o
  dialed_install a h k = install_fits said (space_is a dialed_is) h k

  pub dialed_reset : {o : Bytes} {at k : ℕ} {o₁ : Bytes} {a : ℕ} → Space o at (dialed now p g epoch from how x).outs → length p ≡ 16 → Wrote o at k (output_record (Install said)) o₁ a → a + 21 ≤ length o₁
  dialed_reset s h w = reset_fits p how (space_tail (Install said) (space_is s dialed_is) w) h

  pub dialed_did : {o : Bytes} {at k : ℕ} {o₁ : Bytes} {a j : ℕ} {o₂ : Bytes} {r : ℕ} {u : Bytes} → Wrote o at k (output_record (Install said)) o₁ a → Wrote o₁ a j (output_record (Reset p how)) o₂ r
      → Told u (seated holder x) → Did o at u o₂ r (dialed now p g epoch from how x)
  dialed_did v w z = did_is (record { table = z; puts = puts_cons (Install said) v (puts_one (Reset p how) w) }) (sym dialed_is)

-- ---- the holder moves
module _ (p : Bytes) (g : Leg) (h : Held) (from : Pair) (t : Bytes) {n l m : ℕ} (e : n ≡ g.link) (q : l ≡ g.lease) (f : m ≡ h.link) where
  abbrev carried : Installed
  carried = record { peer = p; link = n; pair = from; build = FromCarry; initiator = true; lease = l }

  abbrev links : List LinkRec
  links = hold n (APeer p) (view_table t).links

  abbrev outs : List Output
  outs = Install carried ∷ Reset p Move ∷ Retire m (retiring m links) ∷ []

  moveto_is : moveto p g h from (view_table t) ≡ writes outs (with_held (alter (named p) (moved_to n from) (view_table t).held) (with_links (retired m links) (drop_leg n (view_table t))))
  unfolding moveto
  moveto_is = rw (e, q, f)

  module _ {o : Bytes} {at : ℕ} (s : Space o at (moveto p g h from (view_table t)).outs) where
    pub moveto_install : {len : ℕ} → length p ≡ 16 → length from.addr ≡ len → at + (39 + len) ≤ length o
    moveto_install h k = install_fits carried (space_is s moveto_is) h k

    module _ {k : ℕ} {o₁ : Bytes} {a : ℕ} (v : Wrote o at k (output_record (Install carried)) o₁ a) where
      left : Space o₁ a (Reset p Move ∷ Retire m (retiring m links) ∷ [])
      left = space_tail (Install carried) (space_is s moveto_is) v

      pub moveto_reset : length p ≡ 16 → a + 21 ≤ length o₁
      moveto_reset h = reset_fits p Move left h

      module _ {j : ℕ} {o₂ : Bytes} {b : ℕ} (w : Wrote o₁ a j (output_record (Reset p Move)) o₂ b) {t₁ t₂ : Bytes} (y : Told t₁ (drop_leg n (view_table t))) (z : Told t₂ (with_links (hold n (APeer p) (view_table t₁).links) (view_table t₁))) where
        readied : Told t₂ (with_links links (drop_leg n (view_table t)))
        readied = told_then (λ (s : Table). with_links (hold n (APeer p) s.links) s) y z

        module _ {cs : List Pair} (c : cs ≡ retiring m (view_table t₂).links) where
          listed : cs ≡ retiring m links
          listed = c ∙ ap (λ (s : Table). retiring m s.links) readied.shows

          pub moveto_retire : b + (13 + length (pairs_bytes cs)) ≤ length o₂
          moveto_retire = rw listed (space_head (Retire m (retiring m links)) (space_tail (Reset p Move) left w))

          pub moveto_did : {t₃ t₄ : Bytes} {i : ℕ} {o₃ : Bytes} {r : ℕ} → Told t₃ (with_links (retired m (view_table t₂).links) (view_table t₂))
              → Told t₄ (with_held (alter (named p) (moved_to n from) (view_table t₃).held) (view_table t₃)) → Wrote o₂ b i (output_record (Retire m cs)) o₃ r
              → Did o at t₄ o₃ r (moveto p g h from (view_table t))
          moveto_did {i = i} {o₃} {r} d u k =
              let k : Wrote o₂ b i (output_record (Retire m (retiring m links))) o₃ r = rw (← listed) k in
              did_is (record {
                table = told_then (λ (s : Table). with_held (alter (named p) (moved_to n from) s.held) s) (told_then (λ (s : Table). with_links (retired m s.links) s) readied d) u;
                puts = puts_cons (Install carried) v (puts_cons (Reset p Move) w (puts_one (Retire m (retiring m links)) k));
              })
              (sym moveto_is)
