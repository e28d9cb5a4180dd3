-- Loops that write outputs, and loops of steps: what is done and what is left make the whole.
use Rattle.std.specs.Prelude.{◌≡◌, refl, List, [], ◌∷◌, ◌++◌, ℕ, ◌+◌, ◌≤◌, length}
use Rattle.std.proofs.Math.Path.{sym, subst}
use Rattle.std.proofs.Common.{ap, ◌∙◌, append_assoc, append-nil}
use Rattle.rules.specs.Base.{Bytes}
use Rattle.rules.specs.Data.{Output, Table, Step}
use Rattle.rules.specs.Output.{output_record}
use Rattle.rules.specs.Settle.{still, ◌▸◌}
use Rattle.lib_laws.specs.Splice.{Wrote}
use Rattle.output_record.specs.Size.{size_of}
use Rattle.output_record.specs.Write.{Puts, puts_none, puts_then, puts_more}
use Rattle.table_layout.specs.View.{view_table}
use Rattle.call_contract.specs.Did.{Space, Did, space_place, space_head, space_rest, space_left, puts_length}
use Rattle.call_contract.specs.Sound.{Sound, Ready, ready_told}

-- ---- outputs: of those to be written from `at` of xs on, those that are left follow at e of ys
pub record Writing (xs : Bytes) (at : ℕ) (whole : List Output) (ys : Bytes) (e : ℕ) (left : List Output) : Type 0 where
  pub done : List Output
  pub puts : Puts xs at done ys e
  pub is : done ++ left ≡ whole
  pub space : Space xs at whole

pub writing_start : {xs : Bytes} {at : ℕ} (whole : List Output) → Space xs at whole → Writing xs at whole xs at whole
writing_start {xs} {at} whole a = record { done = []; puts = puts_none xs at (space_place a); is = refl; space = a }

module _ {xs : Bytes} {at : ℕ} {whole : List Output} {ys : Bytes} {e : ℕ} {left : List Output} (a : Writing xs at whole ys e left) where
  pub writing_space : Space ys e left
  writing_space = space_rest left (subst (λ (s : List Output). Space xs at s) (sym a.is) a.space) a.puts

  pub writing_length : length ys ≡ length xs
  writing_length = puts_length a.puts

  -- room for the first that is left
  pub writing_room : (o : Output) (rest : List Output) → left ≡ o ∷ rest → e + size_of o ≤ length ys
  writing_room o rest q = space_head o (subst (λ (s : List Output). Space ys e s) q writing_space)

  -- it is written
  pub writing_one : {n : ℕ} {zs : Bytes} {k : ℕ} (o : Output) (rest : List Output) → left ≡ o ∷ rest → Wrote ys e n (output_record o) zs k → Writing xs at whole zs k rest
  writing_one o rest q w = record {
    done = a.done ++ (o ∷ []);
    puts = puts_then o a.puts w;
    is = append_assoc a.done (o ∷ []) rest ∙ ap (λ (s : List Output). a.done ++ s) (sym q) ∙ a.is;
    space = a.space;
  }

  -- the first few are
  pub writing_more : {s rest : List Output} {zs : Bytes} {k : ℕ} → left ≡ s ++ rest → Puts ys e s zs k → Writing xs at whole zs k rest
  writing_more {s} {rest} q p = record {
    done = a.done ++ s;
    puts = puts_more a.puts p;
    is = append_assoc a.done s rest ∙ ap (λ (u : List Output). a.done ++ u) (sym q) ∙ a.is;
    space = a.space;
  }

  pub writing_end : left ≡ [] → Puts xs at whole ys e
  writing_end q = subst (λ (s : List Output). Puts xs at s ys e) (sym (append-nil a.done) ∙ ap (λ (s : List Output). a.done ++ s) (sym q) ∙ a.is) a.puts

-- ---- steps: what is left, from the table t on, makes the whole
pub record Doing (xs : Bytes) (at : ℕ) (whole : Step) (t ys : Bytes) (e : ℕ) (left : Step) : Type 0 where
  pub ready : Ready t
  pub table : left.table ≡ whole.table
  pub writing : Writing xs at whole.outs ys e left.outs

pub doing_start : {xs : Bytes} {at : ℕ} {t : Bytes} (whole : Step) → Ready t → Space xs at whole.outs → Doing xs at whole t xs at whole
doing_start whole r a = record { ready = r; table = refl; writing = writing_start whole.outs a }

module _ {xs : Bytes} {at : ℕ} {whole : Step} {t ys : Bytes} {e : ℕ} {left : Step} (a : Doing xs at whole t ys e left) where
  -- room for the next step
  pub doing_space : (s : Step) (f : Table → Step) → left ≡ s ▸ f → Space ys e s.outs
  doing_space s f q = space_left s f (subst (λ (u : Step). Space ys e u.outs) q (writing_space a.writing))

  -- it is done
  pub doing_turn : {t' zs : Bytes} {k : ℕ} (s : Step) (f : Table → Step) → left ≡ s ▸ f → Sound s.table → Did ys e t' zs k s → Doing xs at whole t' zs k (f (view_table t'))
  unfolding ◌▸◌
  doing_turn {t'} {zs} {k} s f q v d =
      subst (λ (u : Table). Doing xs at whole t' zs k (f u)) (sym d.table.shows)
      (record {
        ready = ready_told d.table v;
        table = sym (ap (λ (u : Step). u.table) q) ∙ a.table;
        writing = writing_more a.writing (ap (λ (u : Step). u.outs) q) d.puts;
      })

  pub doing_end : left ≡ still (view_table t) → Did xs at t ys e whole
  doing_end q = record {
    table = record { fit = a.ready.fit; shows = sym (ap (λ (u : Step). u.table) q) ∙ a.table };
    puts = writing_end a.writing (ap (λ (u : Step). u.outs) q);
  }
