use Rattle.std.proofs.Common.{Some, ap, sym, ◌∙◌}
use Rattle.std.specs.Option.{option_or}
use Rattle.std.proofs.lemmas.Result.{err_from_is_err_and}
use Rattle.lt_trace.proofs.RefusalLaws.{or_no_memory}
use Rattle.lt_script.specs.Grammar.{fault_of_turn}
use Rattle.lt_script.specs.Reading.{IsFormFault}
use Rattle.lt_script.proofs.body_line.add_move.Goals as goal

pub returns-in_err-op-clause-fault : goal.returns-in_err-op-clause-fault
returns-in_err-op-clause-fault c =
    let p = err_from_is_err_and c.from_residual.result c.from_residual.ensures.1 in
    let read = c.in-Some.ensures in
    let Is = IsFormFault c.args.body.now c.args.number c.args.text.now in
    rw (p.1, p.2) (or_no_memory Is _ (
      Some read.0,
      read.1,
      ap (λ o. option_or o (fault_of_turn c.args.number c.args.body.now read.0.txn))
          (c.in_err-op.ensures.fault read.0.op read.3),
    ))

pub returns-in_err-check_turn-clause-fault : goal.returns-in_err-check_turn-clause-fault
returns-in_err-check_turn-clause-fault c =
    let p = err_from_is_err_and c.from_residual-in_err-check_turn.result c.from_residual-in_err-check_turn.ensures.1 in
    let read = c.in-Some.ensures in
    let turn = fault_of_turn c.args.number c.args.body.now in
    let Is = IsFormFault c.args.body.now c.args.number c.args.text.now in
    rw (p.1, p.2) (or_no_memory Is _ (
      Some read.0,
      read.1,
      ap (λ o. option_or o (turn read.0.txn)) (c.in_ok-op.ensures.found read.0.op read.3).1 ∙ ap turn (sym read.2)
          ∙ c.in_err-check_turn.ensures.fault,
    ))
