-- The events of the plain scheduler's games stay legal.
use Rattle.std.proofs.Common.{ℕ, ◌<◌, List, [], ◌∷◌, true, nat_cmp, refl, sym, ap, subst, ◌∙◌}
use Rattle.std.specs.List.{AllByRecursion}
use Rattle.std.specs.List.Sorted.{IsStrictlySortedBy}
use Rattle.lt_ranges.specs.Numbers.{is_in}
use Rattle.lt_seq.specs.declared.event.Deed.TheVariants.{Free}
use Rattle.lt_seq.specs.Table.{Setting}
use Rattle.lt_seq.specs.History.{IsLegal}
use Rattle.lt_seq.specs.Questions.{receipt_after}
use Rattle.lt_trace.specs.declared.line.Line.{Line}
use Rattle.lt_runner.specs.declared.release.Release.{Release}
use Rattle.lt_runner.specs.TurnView.{Turn}
use Rattle.lt_runner.specs.Turn.{frees, receipts_in}
use Rattle.lt_runner.specs.Serial.{Game, with_turn, line_move, does}
use Rattle.lt_runner.specs.Steps.{IsFitLine, IsFitRelease, IsSteady, IsAtLine, IsOwing, KeepsMoves}
use Rattle.lt_runner.proofs.SteadyLaws.{numbers, all_with, turn_has}
use Rattle.lt_runner.proofs.CallLaws.{legal_calls}
use Rattle.lt_runner.proofs.SearchedLaws.{IsFitWish}
use Rattle.lt_runner.proofs.WishLaws.{wishes_at, are_wishes, fit_wishes}
use Rattle.lt_runner.proofs.AttemptLaws.{done_line}

abbrev HasFitLines : Setting → Turn → Type 0
HasFitLines setting turn = AllByRecursion (IsFitLine setting turn.txn) turn.lines

lines_fit : (setting : Setting) (turns : List Turn) → AllByRecursion (IsSteady setting) turns → AllByRecursion (HasFitLines setting) turns
lines_fit setting [] all = tt
lines_fit setting (t ∷ ts) all = (all.0.lines, lines_fit setting ts all.1)

legal_line : (setting : Setting) (txns : List ℕ) (game : Game) (turn : Turn) (line : Line) (lines : List Line) → 0 < setting.plan.passes →
    IsAtLine setting txns game turn line lines →
    IsLegal setting game.events → IsLegal setting (does setting turn (line_move setting game turn line.deed) game).events
legal_line setting txns game turn line lines pass at legal =
    let order = at.of_game.order in
    let steady = turn_has (IsSteady setting) setting txns game turn at.of_game order.steady in
    let fits : AllByRecursion (IsFitLine setting turn.txn) (line ∷ lines) = subst (AllByRecursion (IsFitLine setting turn.txn)) at.next steady.lines in
    let sorted : IsStrictlySortedBy nat_cmp (numbers game.turns) = subst (IsStrictlySortedBy nat_cmp) (sym order.numbers) order.sorted in
    let waiting : Turn = record turn { waits = true } in
    let wishes : AllByRecursion (IsFitWish setting) (wishes_at turn game.turns) =
    fit_wishes setting (with_turn waiting game.turns)
    (all_with (HasFitLines setting) (HasFitLines setting) waiting game.turns (lines_fit setting game.turns order.steady) steady.lines (λ t differs all. all)) in
    let done = done_line setting game turn (line ∷ lines) line.deed fits.0.deed
    (are_wishes setting turn game.turns line lines sorted (ap (is_in turn.txn) order.numbers ∙ at.of_game.number) at.next) wishes in
    legal_calls setting turn.txn game.events (receipts_in (line_move setting game turn line.deed)) pass done.calls legal

legal_free : (setting : Setting) (txns : List ℕ) (game : Game) (turn : Turn) (r : Release) (rs : List Release) → 0 < setting.plan.passes →
    IsOwing setting txns game turn r rs →
    IsLegal setting game.events →
    IsLegal setting (does setting turn (frees (receipt_after setting game.events 0 turn.txn (Free r.tree r.range r.first 0))) game).events
legal_free setting txns game turn r rs pass at legal =
    let steady = turn_has (IsSteady setting) setting txns game turn at.of_game at.of_game.order.steady in
    let fits : AllByRecursion (IsFitRelease setting) (r ∷ rs) = subst (AllByRecursion (IsFitRelease setting)) at.next steady.releases in
    legal_calls setting turn.txn game.events (receipt_after setting game.events 0 turn.txn (Free r.tree r.range r.first 0) ∷ []) pass
    (record { deed = Free r.tree r.range r.first 0; is = refl; tree = fits.0.0; question = fits.0.1 }, tt) legal

pub legal_keeps : (setting : Setting) (txns : List ℕ) → 0 < setting.plan.passes → KeepsMoves setting txns (λ game. IsLegal setting game.events)
legal_keeps setting txns pass = record {
  plays = λ game turn line lines at legal. legal_line setting txns game turn line lines pass at legal;
  gives = λ game turn r rs at legal. legal_free setting txns game turn r rs pass at legal;
  marks = λ game released legal. legal;
}
