use Rattle.std.proofs.Common.{◌≡◌, ℕ, zero, suc, ◌<◌, ◌∷◌, [], List, false, length, get_or, sym, ap, subst, ◌∙◌, arith}
use Rattle.std.specs.List.{All}
use Rattle.lt_seq.specs.Yard.{PassView, Origin, origin_of}
use Rattle.lt_runner.specs.TurnView.{Seat}
use Rattle.lt_runner.specs.PlaysOn.{IsFit, IsReady}
use Rattle.lt_deal.specs.declared.deal.Deal.{Deal}
use Rattle.lt_deal.specs.declared.view.View.{View}
use Rattle.lt_deal.specs.Fresh.{waiting}
use Rattle.lt_crew.specs.declared.worker.Worker.{Worker}
use Rattle.lt_crew.specs.Crew.{AreDistinct}
use Rattle.lt_crew.specs.Workers.{EachPair}
use Rattle.lt_crew.specs.Drawing.{known}
use Rattle.lt_crew.specs.DealRounds.{GetsSeat, IsSeated}
use Rattle.lt_crew.proofs.DealRoundLaws.{new_seat}
use Rattle.lt_crew.proofs.tests.draw_one.Goals as goal

one_distinct : (stock : List Seat) (s : Seat) → stock ≡ s ∷ [] → AreDistinct stock
one_distinct stock s is j k d in_j in_k same = omega (arith, in_j, in_k, ap length is)

one_fit : (P : Seat → Type 0) (s : Seat) → P s → All P (s ∷ [])
one_fit P s fit zero d low = fit
one_fit P s fit (suc k) d low = absurd (omega arith)

all_seated : {P : Type 0} (origin : P → Origin) (view : P → PassView) (place : Origin) (deal : Deal Seat) (stock : List Seat) (turn : Seat)
    (old workers : List (Worker P)) → EachPair (GetsSeat deal stock) old workers → All (λ w. origin w.pass ≡ place) old →
    All (λ w. IsReady place.setting (view w.pass)) old → All (λ w. w.short ≡ false) old → length stock ≡ deal.count → stock ≡ turn ∷ [] →
    IsFit place.setting turn → All (IsSeated origin view place deal) workers
all_seated {P = P} origin view place deal stock turn old workers gets of ready memory count is fit k d low =
    let inside : k < length old = omega (arith, low, gets.0) in
    let one = gets.1 k d inside in
    let has = new_seat deal stock (get_or workers k d).seat count one.seat in
    let stocked : (known (get_or workers k d).seat).stock ≡ stock = ap (λ (v : View Seat). v.stock) has.1 in
    record {
      of = ap origin one.pass ∙ of k d inside;
      ready = subst (λ (p : P). IsReady place.setting (view p)) (sym one.pass) (ready k d inside);
      memory = one.memory ∙ memory k d inside;
      seat = has.0;
      blank = has.1 ∙ ap (waiting 1) (sym stocked);
      fit = subst (All (IsFit place.setting)) (sym (stocked ∙ is)) (one_fit (IsFit place.setting) turn fit);
      distinct = subst AreDistinct (sym stocked) (one_distinct stock turn is);
    }

pub side_by_side-requires-clause-seated : goal.side_by_side-requires-clause-seated
side_by_side-requires-clause-seated g c κs within =
    all_seated g.Y.Pass.Pass.origin g.Y.Pass.Pass.view (origin_of (g.Y.Yard.identity c.args.yard.now) (g.Y.Yard.setting c.args.yard.now))
    c.in_ok-deal.deal c.in_ok-turns.turns.items c.args.turn c.args.workers.now c.seat_all.new.workers
    (c.seat_all.ensures c.in_ok-deal.deal c.in_ok-turns.turns.items c.in_ok-deal.ensures.seats) c.requires.of c.requires.ready c.requires.memory
    (sym c.in_ok-deal.ensures.sizes.0) c.in_ok-turns.ensures.items c.requires.fit
