use Rattle.std.proofs.Common.{◌∷◌, ◌++◌, [], sym, ap, subst, ◌∙◌}
use Rattle.lt_runner.specs.TurnView.{Seat}
use Rattle.lt_runner.specs.PlaysOn.{IsFit}
use Rattle.lt_deal.specs.declared.view.View.{View}
use Rattle.lt_deal.specs.Rule.{Gave}
use Rattle.lt_deal.specs.Handles.{knows}
use Rattle.lt_deal.proofs.Lists.{at_len}
use Rattle.lt_crew.specs.Drawing.{nobody}
use Rattle.lt_crew.proofs.DrawnLaws.{elem_all, elem_get}
use Rattle.lt_crew.proofs.drawing.play_next.Goals as goal

pub play_turn-played-requires-clause-fit : goal.play_turn-played-requires-clause-fit
play_turn-played-requires-clause-fit g c κs within =
    elem_all (IsFit (g.Y.Yard.setting c.args.yard.now)) (knows c.args.seat.now).stock c.in-Some.index c.in-Some.turn c.requires.fit c.in-Some.ensures.drawn.0

pub returns-clause-next : goal.returns-clause-next
returns-clause-next g c =
    let old : View Seat = knows c.args.seat.now in
    let index = c.in-Some.index in
    let item = c.in-Some.turn in
    let turn = c.play_turn-played.new.turn in
    let at = c.in-Some.ensures.drawn.0 in
    let drew = c.in-Some.ensures.drawn.1 in
    record {
      index = index;
      item = item;
      turn = turn;
      inside = at_len old.stock index item at;
      at = sym (elem_get old.stock index item nobody at);
      new_one = λ y gave. c.in-Some.ensures.none.3 y (subst (λ (v : View Seat). Gave v.gave index y) (sym drew) gave);
      knows_is = c.give_back.ensures.given.1 ∙ ap (λ (v : View Seat). record v { gave = v.gave ++ (index, turn) ∷ [] }) drew;
      noted = c.in_ok-played.ensures.noted;
      plays = c.in_ok-played.ensures.plays;
      spends = c.in_ok-played.ensures.spends;
      fit = c.in_ok-played.ensures.fit;
      out = c.in_ok-played.ensures.out;
    }
