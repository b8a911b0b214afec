-- A round and the caller's turn behind it bring a crew nearer to its end, whoever is left.
use Rattle.std.proofs.Common.{◌≡◌, ◌⊎◌, ℕ, suc, ◌+◌, ◌*◌, ◌<◌, ◌≤◌, List, [], ◌∷◌, Bool, true, false}
use Rattle.std.proofs.Common.{length, get_or, refl, sym, ap, subst, ◌∙◌, arith, inl, inr}
use Rattle.std.specs.List.{AllByRecursion}
use Rattle.std.proofs.lemmas.Bool.{false≢true}
use Rattle.lt_seq.specs.declared.event.Event.{Event}
use Rattle.lt_seq.specs.Table.{Setting}
use Rattle.lt_seq.specs.Yard.{PassView}
use Rattle.lt_trace.specs.declared.line.Line.{Line}
use Rattle.lt_requests.specs.declared.wish.Wish.{Wish}
use Rattle.lt_runner.specs.TurnView.{Seat}
use Rattle.lt_runner.specs.Seats.{opening_seat}
use Rattle.lt_runner.specs.Played.{Search, Stands}
use Rattle.lt_runner.specs.Work.{work, steps}
use Rattle.lt_runner.specs.CrewCost.{sum_of, pass_cost}
use Rattle.lt_runner.specs.Standing.{IsStanding, AreFitDeeds}
use Rattle.lt_runner.specs.Listed.{IsSeated}
use Rattle.lt_runner.specs.Retries.{AllWaitersListed}
use Rattle.lt_runner.proofs.StandingLaws.{seats_stand}
use Rattle.lt_crew.specs.Caller.{IsCrew, IsCrewOf, AsksStay}
use Rattle.lt_crew.specs.CallersTurn.{IsTurned, ArePaid}
use Rattle.lt_crew.specs.DealRounds.{IsDealtRound}
use Rattle.lt_crew.specs.RunCrew.{SomeLeft, ComesNearer, bound_on}
use Rattle.lt_crew.specs.Settled.{SettlesOne}
use Rattle.lt_crew.specs.Workers.{EachPair}
use Rattle.lt_crew.proofs.CallerLaws.{all_at}
use Rattle.lt_crew.proofs.CallersTurnLaws.{times_less}
use Rattle.lt_crew.proofs.CrewRunLaws.{rounds_stand}
use Rattle.lt_crew.proofs.NearerLaws.{crews_come_nearer}
use Rattle.lt_crew.proofs.StoppedLaws.{IsGoing, IsStopped, find_going, over_without_steps, AreSettled, all_settled}

-- each transaction of a crew stands
all_stand_in : (setting : Setting) (lines : List Line) (searches : List Search) (history : List Event) (seats : List Seat) → AreFitDeeds setting lines →
    AllByRecursion (Stands true setting searches lines history) seats → AllByRecursion (λ s. IsStanding setting s.turn) seats
all_stand_in setting lines searches history [] deeds stand = tt
all_stand_in setting lines searches history (s ∷ ss) deeds stand =
    (seats_stand setting searches lines history s deeds stand.0, all_stand_in setting lines searches history ss deeds stand.1)

pub crew_stands : (setting : Setting) (lines : List Line) (history : List Event) (registry : List Wish) (seats : List Seat) → AreFitDeeds setting lines →
    IsCrew setting lines history registry seats → AllByRecursion (λ s. IsStanding setting s.turn) seats
crew_stands setting lines history registry seats deeds crew =
    all_stand_in setting lines crew.searches history seats deeds (rounds_stand setting lines crew.searches history seats crew.rounds).stand

-- some seat, read where there is no other
no_seat : Seat
no_seat = opening_seat 0 0 []

-- Where nobody can take a step one waits, whom the caller's turn settles.
settles_one : (setting : Setting) (lines : List Line) (registry : List Wish) (before mid : List Event) (old between new : List Seat) →
    AreFitDeeds setting lines → IsCrew setting lines before registry old → IsCrew setting lines mid registry between →
    (round : IsDealtRound setting before mid old between) → AllByRecursion IsStopped old → AllWaitersListed old → SomeLeft old →
    SettlesOne between new → sum_of steps new < sum_of steps old
settles_one setting lines registry before mid old between new deeds crew crew_mid round stopped listed left settles =
    by_stop (all_at IsStopped old left.0 no_seat left.1 stopped)
  where
    rest : AreSettled old between
    rest = all_settled setting before mid round.were round.are round.round round.out old between round.moved stopped listed
        (crew_stands setting lines mid registry between deeds crew_mid) crew_mid.registered.seated

    by_stop : IsStopped (get_or old left.0 no_seat) → sum_of steps new < sum_of steps old
    by_stop (inl waits) =
        let less = settles rest.rest rest.listed left.0 no_seat (omega (arith, round.count, left.1)) (rest.waits left.0 no_seat left.1 waits) in
        omega (arith, less, rest.back)
    by_stop (inr none) =
        absurd (left.2 no_seat (over_without_steps setting (get_or old left.0 no_seat)
        (all_at (λ s. IsStanding setting s.turn) old left.0 no_seat left.1 (crew_stands setting lines before registry old deeds crew)) none))

fewer_steps : (setting : Setting) (lines : List Line) (registry : List Wish) (before mid : List Event) (old between new : List Seat) →
    AreFitDeeds setting lines → IsCrew setting lines before registry old → IsCrew setting lines mid registry between →
    IsDealtRound setting before mid old between → AllWaitersListed old → SomeLeft old → EachPair IsTurned between new → SettlesOne between new →
    sum_of steps new < sum_of steps old
fewer_steps setting lines registry before mid old between new deeds crew crew_mid round listed left turned settles = by_going (find_going old)
  where
    by_going : IsGoing old ⊎ AllByRecursion IsStopped old → sum_of steps new < sum_of steps old
    by_going (inl going) =
        let dealt = round.dealt going.index no_seat going.inside in
        (crews_come_nearer setting lines registry before mid round.were round.are old between new deeds round.round round.out round.among
        round.moved crew turned).on going.index no_seat going.inside
        (record { goes = going.goes no_seat; some = going.some no_seat; pass = dealt.0; dealt = dealt.1 })
    by_going (inr stopped) = settles_one setting lines registry before mid old between new deeds crew crew_mid round stopped listed left settles

-- Behind the caller's turn exactly those that wait are registered.

listed_now : (was is : Seat) → IsTurned was is → IsSeated is → is.listed ≡ is.turn.waits
listed_now was is turned seated = by_both is.listed is.turn.waits refl refl
  where
    by_both : (a b : Bool) → is.listed ≡ a → is.turn.waits ≡ b → is.listed ≡ is.turn.waits
    by_both true b l w = l ∙ sym (seated.waits l)
    by_both false true l w = absurd (false≢true (sym l ∙ turned.listed w))
    by_both false false l w = l ∙ sym w

listed_behind : (between new : List Seat) → EachPair IsTurned between new → AllByRecursion IsSeated new → AllWaitersListed new
listed_behind between [] turned seated = tt
listed_behind [] (n ∷ ns) turned seated = absurd (omega (arith, turned.0))
listed_behind (m ∷ ms) (n ∷ ns) turned seated = (
  listed_now m n (turned.1 0 m (omega arith)) seated.0,
  listed_behind ms ns (omega (arith, turned.0), λ i d inside. turned.1 (suc i) d (omega (arith, inside))) seated.1,
)

-- The bound does not rise.
bound_falls : (a b e x y z p q cost : ℕ) → b + y ≤ a + x → e + z ≤ b + y + cost → q < p → e + z + q * cost ≤ a + x + p * cost
bound_falls a b e x y z p q cost spent paid less = omega (arith, spent, paid, times_less q p cost less)

pub comes_nearer : (setting : Setting) (first mid last : PassView) (registry registry_now : List Wish) (old between new : List Seat) →
    IsCrewOf setting first.front registry old → AllWaitersListed old → SomeLeft old → IsDealtRound setting first.front mid.front old between →
    AsksStay setting mid.front last.front registry registry_now between new → EachPair IsTurned between new → SettlesOne between new →
    ArePaid setting mid last between new (pass_cost setting.plan.trees (length between)) →
    ComesNearer setting first.front last.front registry registry_now old new
comes_nearer setting first mid last registry registry_now old between new some listed left round asked turned settles paid =
    let lines = some.lines in
    let crew_mid = round.crew lines registry some.deeds some.crew in
    let crew_now = asked lines some.deeds crew_mid in
    let less = fewer_steps setting lines registry first.front mid.front old between new some.deeds some.crew crew_mid round listed left turned settles in
    let cost = pass_cost setting.plan.trees (length old) in
    let one_cost : pass_cost setting.plan.trees (length between) ≡ cost = ap (pass_cost setting.plan.trees) round.count in
    let new_cost : pass_cost setting.plan.trees (length new) ≡ cost = ap (pass_cost setting.plan.trees) (turned.0 ∙ round.count) in
    let falls : length last.front + sum_of (work setting) new + sum_of steps new * cost ≤ bound_on setting first.front old =
    bound_falls (length first.front) (length mid.front) (length last.front) (sum_of (work setting) old) (sum_of (work setting) between)
    (sum_of (work setting) new) (sum_of steps old) (sum_of steps new) cost round.spent (omega (arith, paid, one_cost)) less in
    record {
      stays = λ ls deeds crew. asked ls deeds (round.crew ls registry deeds crew);
      count = turned.0 ∙ round.count;
      listed = listed_behind between new turned crew_now.registered.seated;
      nearer = less;
      bound = omega (arith, falls, ap (λ (k : ℕ). sum_of steps new * k) new_cost);
    }

-- the same where the dealt transactions go by another name in the caller's turn
pub comes_by : (setting : Setting) (first mid last : PassView) (registry registry_now : List Wish) (old dealt between new : List Seat) →
    between ≡ dealt → IsCrewOf setting first.front registry old → AllWaitersListed old → SomeLeft old →
    IsDealtRound setting first.front mid.front old dealt → AsksStay setting mid.front last.front registry registry_now between new →
    EachPair IsTurned between new → SettlesOne between new → ArePaid setting mid last between new (pass_cost setting.plan.trees (length between)) →
    ComesNearer setting first.front last.front registry registry_now old new
comes_by setting first mid last registry registry_now old dealt between new same some listed left round asked turned settles paid =
    comes_nearer setting first mid last registry registry_now old between new some listed left
    (subst (IsDealtRound setting first.front mid.front old) (sym same) round) asked turned settles paid
