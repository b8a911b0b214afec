-- Workers before they begin and behind their end.
use Rattle.std.proofs.Common.{◌≡◌, ℕ, zero, suc, ◌+◌, ◌<◌, ◌≤◌, List, [], ◌∷◌, ◌++◌, map, length, get_or, take, drop}
use Rattle.std.proofs.Common.{refl, sym, ap, ap₂, subst, ◌∙◌, arith, false}
use Rattle.std.proofs.Common.{append-nil, append_assoc}
use Rattle.std.specs.List.{All, AllByRecursion, flat_map}
use Rattle.crossbeam_queue.specs.Passes.{Pass, view}
use Rattle.lt_seq.specs.declared.event.Receipt.{Receipt}
use Rattle.lt_seq.specs.Table.{Setting}
use Rattle.lt_seq.specs.Passes.{numbers_from, opening_view, opening_passes}
use Rattle.lt_seq.specs.Yard.{PassView, Origin, IsPlan}
use Rattle.lt_trace.specs.declared.line.Line.{Line}
use Rattle.lt_runner.specs.TurnView.{Seat}
use Rattle.lt_live.specs.declared.queue.Hand.{Hand}
use Rattle.lt_live.specs.declared.worker.Worker.{Worker}
use Rattle.lt_live.specs.Deals.{hand}
use Rattle.lt_live.specs.Ends.{IsFresh, IsDone, AreDone, numbers_of, both, all_told}
use Rattle.lt_live.specs.House.{IsPassFit, Hears}
use Rattle.lt_live.specs.Live.{Block, HasServed, Served}
use Rattle.lt_live.specs.Workers.{EachPair, IsHired, HasWorked}

-- the passes of a table that was built have done nothing yet
opening_fit : (setting : Setting) (at rights : ℕ) → IsPlan setting.plan → at < setting.plan.passes → rights ≤ setting.plan.passes →
    IsPassFit setting (opening_view at rights)
opening_fit setting at rights plan inside most =
    record { plan = plan; number = inside; most = most; sound = record { legal = tt; mine = refl }; noted = refl }

module _ {P : Type 0} (origin : P → Origin) (seen : P → PassView) (place : Origin) where
  -- a pass with this number, which has made no event
  pub record IsIdle (at : ℕ) (pass : P) : Type 0 where
    pub of : origin pass ≡ place
    pub fit : IsPassFit place.setting (seen pass)
    pub number : (seen pass).number ≡ at
    pub mine : (seen pass).mine ≡ []

  abbrev pub AreIdle : ℕ → List P → Type 0
  AreIdle at [] = Unit {0}
  AreIdle at (p ∷ ps) = IsIdle at p × AreIdle (at + 1) ps

  opened : (passes : List P) (from count : ℕ) → IsPlan place.setting.plan → from + count ≤ place.setting.plan.passes →
      AllByRecursion (λ p. origin p ≡ place) passes → map seen passes ≡ map (λ n. opening_view n 0) (numbers_from from count) → AreIdle from passes
  opened [] from count plan most of is = tt
  opened (p ∷ ps) from zero plan most of is = absurd (omega (arith, ap length is))
  opened (p ∷ ps) from (suc count) plan most of is =
      let first : seen p ≡ opening_view from 0 = cc in
      let later : map seen ps ≡ map (λ n. opening_view n 0) (numbers_from (from + 1) count) = cc in (
        record {
          of = of.0;
          fit = subst (IsPassFit place.setting) (sym first) (opening_fit place.setting from 0 plan (omega (arith, most)) (omega arith));
          number = ap (λ (v : PassView). v.number) first;
          mine = ap (λ (v : PassView). v.mine) first;
        },
        opened ps (from + 1) count plan (omega (arith, most)) of.1 later,
      )

  pub opened_idle : (passes : List P) (count : ℕ) → place.setting.plan.passes ≡ count → IsPlan place.setting.plan →
      AllByRecursion (λ p. origin p ≡ place) passes → map seen passes ≡ opening_passes count → AreIdle 0 passes
  opened_idle [] count is plan of views = tt
  opened_idle (p ∷ ps) zero is plan of views = absurd (omega (arith, ap length views))
  opened_idle (p ∷ ps) (suc more) is plan of views =
      let first : seen p ≡ opening_view 0 (suc more) = cc in
      let later : map seen ps ≡ map (λ n. opening_view n 0) (numbers_from 1 more) = cc in (
        record {
          of = of.0;
          fit = subst (IsPassFit place.setting) (sym first)
              (opening_fit place.setting 0 (suc more) plan (omega (arith, is)) (omega (arith, is)));
          number = ap (λ (v : PassView). v.number) first;
          mine = ap (λ (v : PassView). v.mine) first;
        },
        opened ps 1 more plan (omega (arith, is)) of.1 later,
      )

  -- it only heard from others
  pub idle_hears : (at : ℕ) (old new : P) → IsIdle at old → origin new ≡ place → IsPassFit place.setting (seen new) → Hears (seen old) (seen new) →
      IsIdle at new
  idle_hears at old new idle of fit hears =
      record { of = of; fit = fit; number = hears.number ∙ idle.number; mine = hears.mine ∙ idle.mine }

  -- The first pass is taken out, and put back once it has told the house of it.

  pub record AreSplit (first : P) (rest : List P) : Type 0 where
    pub first_idle : IsIdle 0 first
    pub rest_idle : AreIdle 1 rest
    pub count : suc (length rest) ≡ place.setting.plan.passes

  opened_count : (passes : List P) (count : ℕ) → map seen passes ≡ opening_passes count → length passes ≡ count
  opened_count [] zero views = refl
  opened_count [] (suc more) views = absurd (omega (arith, ap length views))
  opened_count (p ∷ ps) zero views = absurd (omega (arith, ap length views))
  opened_count (p ∷ ps) (suc more) views =
      let later : map seen ps ≡ map (λ n. opening_view n 0) (numbers_from 1 more) = cc in
      ap suc (behind ps 1 more later)
    where
      behind : (qs : List P) (from n : ℕ) → map seen qs ≡ map (λ k. opening_view k 0) (numbers_from from n) → length qs ≡ n
      behind [] from zero is = refl
      behind [] from (suc n) is = absurd (omega (arith, ap length is))
      behind (q ∷ qs) from zero is = absurd (omega (arith, ap length is))
      behind (q ∷ qs) from (suc n) is =
          let rest : map seen qs ≡ map (λ k. opening_view k 0) (numbers_from (from + 1) n) = cc in
          ap suc (behind qs (from + 1) n rest)

  pub opened_split : (passes : List P) (first : P) (rest : List P) → IsPlan place.setting.plan → AllByRecursion (λ p. origin p ≡ place) passes →
      map seen passes ≡ opening_passes place.setting.plan.passes → first ≡ get_or passes 0 first → rest ≡ take 0 passes ++ drop 1 passes →
      AreSplit first rest
  opened_split [] first rest plan of views at left =
      absurd (omega (arith, plan.passes, opened_count [] place.setting.plan.passes views))
  opened_split (p ∷ ps) first rest plan of views at left =
      let idle = opened_idle (p ∷ ps) place.setting.plan.passes refl plan of views in
      let same : rest ≡ ps = left in
      record {
        first_idle = subst (IsIdle 0) (sym at) idle.0;
        rest_idle = subst (AreIdle 1) (sym same) idle.1;
        count = ap (λ (qs : List P). suc (length qs)) same ∙ opened_count (p ∷ ps) place.setting.plan.passes views;
      }

  -- workers with these passes, which have made no event
  pub record AreReady (passes : List P) (workers : List (Worker P)) : Type 0 where
    pub idle : AreIdle 0 (map (λ w. w.pass) workers)
    pub count : length workers ≡ place.setting.plan.passes
    pub all : length passes ≡ place.setting.plan.passes

  length_of : (workers : List (Worker P)) → length (map (λ w. w.pass) workers) ≡ length workers
  length_of [] = refl
  length_of (w ∷ ws) = ap suc (length_of ws)

  split_ready : (first now : P) (rest all : List P) (workers : List (Worker P)) → AreSplit first rest → origin now ≡ place →
      IsPassFit place.setting (seen now) → Hears (seen first) (seen now) → all ≡ now ∷ rest → map (λ w. w.pass) workers ≡ all → AreReady all workers
  split_ready first now rest all workers split of fit hears put own = record {
    idle = subst (AreIdle 0) (sym (own ∙ put)) (idle_hears 0 first now split.first_idle of fit hears, split.rest_idle);
    count = sym (length_of workers) ∙ ap length (own ∙ put) ∙ split.count;
    all = ap length put ∙ split.count;
  }

  pub opened_ready : (passes : List P) (first now : P) (rest all : List P) (workers : List (Worker P)) → IsPlan place.setting.plan →
      AllByRecursion (λ p. origin p ≡ place) passes → map seen passes ≡ opening_passes place.setting.plan.passes →
      first ≡ get_or passes 0 first → rest ≡ take 0 passes ++ drop 1 passes → origin now ≡ place → IsPassFit place.setting (seen now) →
      Hears (seen first) (seen now) → all ≡ now ∷ rest → map (λ w. w.pass) workers ≡ all → AreReady all workers
  opened_ready passes first now rest all workers plan of views at left of_now fit hears put own =
      split_ready first now rest all workers (opened_split passes first rest plan of views at left) of_now fit hears put own

  module _ (IsTicket : Pass ℕ Hand → Type 0) where
    hired : (at : ℕ) (worker : Worker P) → IsIdle at worker.pass → IsFresh IsTicket worker → IsHired origin seen place IsTicket worker
    hired at worker idle fresh = record {
      of = idle.of;
      fit = idle.fit;
      queue = fresh.queue;
      parts = subst (λ (h : Hand). 0 < h.parts) (sym fresh.ticket) (omega arith);
      none = fresh.none;
      memory = fresh.memory;
    }

    pub all_hired : (workers : List (Worker P)) (from : ℕ) → AreIdle from (map (λ w. w.pass) workers) → All (IsFresh IsTicket) workers →
        All (IsHired origin seen place IsTicket) workers
    all_hired [] from idle fresh k d inside = absurd (omega (arith, inside))
    all_hired (w ∷ ws) from idle fresh zero d inside = hired from w idle.0 (fresh 0 w (omega arith))
    all_hired (w ∷ ws) from idle fresh (suc k) d inside =
        all_hired ws (from + 1) idle.1 (λ i e lt. fresh (suc i) e (omega (arith, lt))) k d (omega (arith, inside))

    module _ (lines : List Line) where
      served_first : (at : ℕ) (old new : P) (turns : List Seat) → IsIdle at old →
          HasServed place.setting lines (seen old) (seen new) turns → Served place.setting lines (seen new).front (seen new) turns
      served_first at old new turns idle served = record {
        blocks = served.blocks;
        turns_are = served.turns_are;
        mine = served.mine ∙ ap (λ (rs : List Receipt). rs ++ flat_map (λ (b : Block). b.made) served.blocks) idle.mine;
        each = served.each;
      }

      done : (at : ℕ) (old new : Worker P) → IsIdle at old.pass → IsFresh IsTicket old → HasWorked origin seen place IsTicket lines old new →
          new.stopped ≡ false → IsDone origin seen place lines at new.pass new.turns.items
      done at old new idle fresh worked goes = record {
        of = worked.of;
        fit = worked.fit;
        number = (worked.serves goes).number ∙ idle.number;
        served = served_first at old.pass new.pass new.turns.items idle (worked.serves goes);
      }

      pub all_done : (old new : List (Worker P)) (from : ℕ) → AreIdle from (map (λ w. w.pass) old) → All (IsFresh IsTicket) old →
          EachPair (HasWorked origin seen place IsTicket lines) old new → All (λ w. w.stopped ≡ false) new →
          AreDone origin seen place IsTicket lines from new
      all_done old [] from idle fresh worked goes = tt
      all_done [] (n ∷ ns) from idle fresh worked goes = absurd (omega (arith, worked.0))
      all_done (o ∷ os) (n ∷ ns) from idle fresh worked goes =
          let here = worked.1 0 o (omega arith) in
          let new_one = fresh 0 o (omega arith) in
          let on = goes 0 n (omega arith) in (
            done from o n idle.0 new_one here on,
            here.queue,
            (here.taken on).same ∙ ap (λ (h : Hand). hand h.parts h.put (h.taken ++ numbers_of n.turns.items)) new_one.ticket,
            all_done os ns (from + 1) idle.1 (λ i e lt. fresh (suc i) e (omega (arith, lt)))
                (omega (arith, worked.0), λ i e lt. worked.1 (suc i) e (omega (arith, lt)))
                (λ i e lt. goes (suc i) e (omega (arith, lt))),
          )

      pub done_queues : (workers : List (Worker P)) (from : ℕ) → AreDone origin seen place IsTicket lines from workers →
          AllByRecursion (λ w. IsTicket w.ticket) workers
      done_queues [] from are = tt
      done_queues (w ∷ ws) from are = (are.1, done_queues ws (from + 1) are.3)

      pub done_told : (workers : List (Worker P)) (from : ℕ) (ticket : Hand) → AreDone origin seen place IsTicket lines from workers →
          all_told ticket (map (λ w. view w.ticket) workers)
          ≡ hand (ticket.parts + length workers) ticket.put (ticket.taken ++ flat_map (λ w. numbers_of w.turns.items) workers)
      done_told [] from ticket are = ap₂ (λ (n : ℕ) (ns : List ℕ). hand n ticket.put ns) (omega arith) (sym (append-nil ticket.taken))
      done_told (w ∷ ws) from ticket are =
          let own = numbers_of w.turns.items in
          let rest = flat_map (λ v. numbers_of v.turns.items) ws in
          let first : both ticket (view w.ticket) ≡ hand (ticket.parts + 1) ticket.put (ticket.taken ++ own) =
          ap (both ticket) are.2 ∙ ap (λ (ns : List ℕ). hand (ticket.parts + 1) ns (ticket.taken ++ own)) (append-nil ticket.put) in
          ap (λ (h : Hand). all_told h (map (λ v. view v.ticket) ws)) first
          ∙ done_told ws (from + 1) (hand (ticket.parts + 1) ticket.put (ticket.taken ++ own)) are.3
          ∙ ap₂ (λ (n : ℕ) (ns : List ℕ). hand n ticket.put ns) (omega arith) (append_assoc ticket.taken own rest)
