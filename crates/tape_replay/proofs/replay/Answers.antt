-- `tape_replay::replay` meets its contract.
use mathlib.Core.Path.{sym}
use mathlib.Core.List.{List}
use Prim.Native.Nat.{ℕ, ◌-◌}
use native.Mathlib.Omega.{arith}
use borrow.Rule.Slice.PartMut.{put_mid, same_len_mid}
use lib.Seq.{length-take-le}
use Rattle.tape.specs.Run.{run_fits}
use Rattle.tape_replay.proofs.replay.Goals as goal

pub slice_bounds-run-end-2 : goal.slice_bounds-run-end-2
slice_bounds-run-end-2 c =
    let tape : List ℕ = put_mid 0 (c.args.size - 0) c.args.tape.now c.read_full-got.new.buf in
    sym (length-take-le c.args.size tape (omega (arith, same_len_mid 0 (c.args.size - 0) c.args.tape.now c.read_full-got.new.buf c.read_full-got.auto.buf, c.requires.size_in_bounds)))

pub slice_bounds-write_all-end : goal.slice_bounds-write_all-end
slice_bounds-write_all-end c = run_fits c.run-r.ensures

pub slice_bounds-write_all-end-2 : goal.slice_bounds-write_all-end-2
slice_bounds-write_all-end-2 c = sym (length-take-le c.run-r.result.len c.run-r.new.out (run_fits c.run-r.ensures))
