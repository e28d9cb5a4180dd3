use Rattle.lib_laws.specs.Cell.{is_some_is, unwrap_or_is}
use Rattle.lib_laws.specs.Splice.{wrote_then}
use Rattle.lib_bytes.proofs.flag.put_option.Goals as goal

pub returns : goal.returns
returns c =
    let o = c.args.o in
    rw (← is_some_is o, ← c.is_some.ensures, ← unwrap_or_is 0 o, ← c.unwrap_or.ensures) (wrote_then c.put_flag-a.ensures c.put_be.ensures)
