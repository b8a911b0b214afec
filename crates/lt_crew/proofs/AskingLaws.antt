-- What an ask of the caller's came to.
use Rattle.std.proofs.Common.{◌≡◌, List, Bool, Some, Result, subst, ◌∙◌}
use Rattle.lt_seq.specs.declared.fault.Fault.{Fault}
use Rattle.lt_seq.specs.Table.{Setting}
use Rattle.lt_seq.specs.Yard.{PassView, bar_for}
use Rattle.lt_requests.specs.declared.wish.Wish.{Wish}
use Rattle.lt_requests.specs.declared.started.Started.{Started}
use Rattle.lt_requests.specs.Registered.{is_registered}
use Rattle.lt_requests.specs.Started.{IsStarted, HasAnswer}
use Rattle.lt_requests.proofs.DoneLaws.{start_answers}
use Rattle.lt_runner.specs.TurnView.{Seat}
use Rattle.lt_runner.specs.Attempt.{bar_of}
use Rattle.lt_runner.specs.Plays.{next_wish}
use Rattle.lt_runner.specs.Listed.{wishes_for, others_for}
use Rattle.lt_crew.specs.Caller.{IsAlone, MayAskNow}

some_same : (a b : Wish) → Some a ≡ Some b → a ≡ b
some_same a b e = cc

-- as the registry tells of its wish
abbrev AnswersFor : Setting → Bool → Wish → List Wish → PassView → PassView → List Wish → Result Started Fault → Type 0
AnswersFor setting big wish registry old new left answer =
    IsStarted setting (bar_for setting big) wish (others_for (is_registered wish.txn registry) wish registry)
    (wishes_for (is_registered wish.txn registry) wish registry) registry old new left answer

-- as the seat tells
abbrev AnswersAt : Setting → Seat → Wish → List Wish → PassView → PassView → List Wish → Result Started Fault → Type 0
AnswersAt setting seat wish registry old new left answer =
    IsStarted setting (bar_of setting seat.turn) wish (others_for seat.listed wish registry) (wishes_for seat.listed wish registry) registry
    old new left answer

pub answered_at : (setting : Setting) (old new : PassView) (registry : List Wish) (seat : Seat)
    (may : MayAskNow setting old registry seat) (wish : Wish)
    (big : Bool) (left : List Wish) (answer : Result Started Fault) → Some wish ≡ next_wish seat.turn.txn seat.turn.lines → big ≡ seat.turn.big →
    AnswersFor setting big wish registry old new left answer → AnswersAt setting seat may.wish registry old new left answer
answered_at setting old new registry seat may wish big left answer next same is =
    let own : wish ≡ may.wish = some_same wish may.wish (next ∙ may.next) in
    let at_wish : AnswersFor setting big may.wish registry old new left answer =
    subst (λ (w : Wish). AnswersFor setting big w registry old new left answer) own is in
    let with_bar = subst (λ (b : Bool). AnswersFor setting b may.wish registry old new left answer) same at_wish in
    subst (λ (b : Bool). IsStarted setting (bar_of setting seat.turn) may.wish (others_for b may.wish registry) (wishes_for b may.wish registry)
    registry old new left answer) may.registered with_bar

pub has_answer : (setting : Setting) (old new : PassView) (registry : List Wish) (seat : Seat) (may : MayAskNow setting old registry seat)
    (left : List Wish) (answer : Result Started Fault) → IsAlone setting old → AnswersAt setting seat may.wish registry old new left answer →
    HasAnswer answer
has_answer setting old new registry seat may left answer alone is =
    start_answers setting (bar_of setting seat.turn) may.wish (others_for seat.listed may.wish registry) (wishes_for seat.listed may.wish registry)
    registry old new left answer is may.among.ascend alone.all may.places
