-- What is left behind the end of all workers.
use Rattle.std.proofs.Common.{◌≡◌, ℕ, zero, suc, ◌+◌, ◌<◌, List, [], ◌∷◌, ◌++◌, map, length, refl, sym, ap, ap₂, subst, ◌∙◌, arith}
use Rattle.std.proofs.Common.{append_assoc}
use Rattle.std.specs.List.{All, AllByRecursion, flat_map}
use Rattle.std.specs.List.Sorted.{IsPermutation}
use Rattle.std.proofs.lemmas.List.Folds.{flat_map-map}
use Rattle.std.proofs.lemmas.List.Sorted.{IsPermutation-trans, IsPermutation-append_right, IsPermutation-append_comm}
use Rattle.crossbeam_queue.specs.Passes.{Pass, view}
use Rattle.lt_seq.specs.declared.event.JoinNote.{JoinNote}
use Rattle.lt_seq.specs.declared.event.Receipt.{Receipt}
use Rattle.lt_seq.specs.Table.{Setting}
use Rattle.lt_seq.specs.Passes.{numbers_from, FirstHasAll}
use Rattle.lt_seq.specs.Yard.{PassView, Origin, IsSound, HasAll}
use Rattle.lt_trace.specs.declared.line.Line.{Line}
use Rattle.lt_runner.specs.Notes.{notes_of}
use Rattle.lt_runner.specs.TurnView.{Seat}
use Rattle.lt_live.specs.declared.hire.Parted.{Parted}
use Rattle.lt_live.specs.declared.hire.Played.{Played}
use Rattle.lt_live.specs.declared.queue.Hand.{Hand}
use Rattle.lt_live.specs.declared.worker.Worker.{Worker}
use Rattle.lt_live.specs.Deals.{hand, times}
use Rattle.lt_live.specs.Ends.{IsDone, AreDone, IsParted, IsEmptied, IsTogether, IsPlayedLive, EachServed, numbers_of}
use Rattle.lt_live.specs.House.{IsPassFit}
use Rattle.lt_live.specs.Live.{Block, HasServed, Served}
use Rattle.lt_live.specs.Workers.{EachPair, IsHired, HasTaken}
use Rattle.lt_live.proofs.EndsLaws.{done_told}
use Rattle.lt_live.proofs.LiveLaws.{blocks_on}
use Rattle.lt_live.proofs.TimesLaws.{times_append}

map_append : {X Y : Type 0} (f : X → Y) (xs ys : List X) → map f (xs ++ ys) ≡ map f xs ++ map f ys
map_append f [] ys = refl
map_append f (x ∷ xs) ys = ap (λ zs. f x ∷ zs) (map_append f xs ys)

flat_append : {X Y : Type 0} (f : X → List Y) (xs ys : List X) → flat_map f (xs ++ ys) ≡ flat_map f xs ++ flat_map f ys
flat_append f [] ys = refl
flat_append f (x ∷ xs) ys = ap (λ zs. f x ++ zs) (flat_append f xs ys) ∙ sym (append_assoc (f x) (flat_map f xs) (flat_map f ys))

each_append : {X : Type 0} (Q : X → Type 0) (xs ys : List X) → AllByRecursion Q xs → AllByRecursion Q ys → AllByRecursion Q (xs ++ ys)
each_append Q [] ys all more = more
each_append Q (x ∷ xs) ys all more = (all.0, each_append Q xs ys all.1 more)

-- one that has played some goes on to play others
served_then : (setting : Setting) (lines : List Line) (old new : PassView) (were more : List Seat) → Served setting lines old.front old were →
    HasServed setting lines old new more → Served setting lines new.front new (were ++ more)
served_then setting lines old new were more served then = record {
  blocks = served.blocks ++ then.blocks;
  turns_are = map_append (λ (b : Block). b.seat) served.blocks then.blocks ∙ ap₂ (λ (xs ys : List Seat). xs ++ ys) served.turns_are then.turns_are;
  mine = then.mine ∙ ap (λ (rs : List Receipt). rs ++ flat_map (λ (b : Block). b.made) then.blocks) served.mine
      ∙ sym (flat_append (λ (b : Block). b.made) served.blocks then.blocks);
  each = each_append _ served.blocks then.blocks (blocks_on setting lines old.front new.front served.blocks then.front served.each) then.each;
}

-- The turns of all, in another order.

turned : (own more rest all : List Seat) → IsPermutation ((own ++ rest) ++ more) all → IsPermutation ((own ++ more) ++ rest) all
turned own more rest all put =
    IsPermutation-trans ((own ++ more) ++ rest) ((own ++ rest) ++ more) all
    (subst (λ (xs : List Seat). IsPermutation xs ((own ++ rest) ++ more)) (sym (append_assoc own more rest))
    (subst (IsPermutation (own ++ (more ++ rest))) (sym (append_assoc own rest more))
    (IsPermutation-append_right own (more ++ rest) (rest ++ more) (IsPermutation-append_comm more rest)))) put

times_turned : (x : ℕ) (own more rest : List ℕ) → times x ((own ++ more) ++ rest) ≡ times x ((own ++ rest) ++ more)
times_turned x own more rest =
    omega (arith, times_append x (own ++ more) rest, times_append x own more, times_append x (own ++ rest) more, times_append x own rest)

module _ {P : Type 0} (origin : P → Origin) (seen : P → PassView) (place : Origin) (lines : List Line) where
  abbrev AreDoneBy : ℕ → List P → List (List Seat) → Type 0
  AreDoneBy from [] [] = Unit {0}
  AreDoneBy from [] (ts ∷ tss) = ⊥
  AreDoneBy from (p ∷ ps) [] = ⊥
  AreDoneBy from (p ∷ ps) (ts ∷ tss) = IsDone origin seen place lines from p ts × AreDoneBy (from + 1) ps tss

  -- what the passes are, once their notes were taken
  record AreLeft (from : ℕ) (ps : List P) (tss : List (List Seat)) (new : List P) : Type 0 where
    of : AllByRecursion (λ p. origin p ≡ place) new
    numbers : map (λ (v : PassView). v.number) (map seen new) ≡ numbers_from from (length ps)
    sound : AllByRecursion (IsSound place.setting) (map seen new)
    served : EachServed place.setting lines (map seen new) tss
    notes : flat_map (λ p. (seen p).notes) ps ≡ flat_map (λ v. notes_of place.setting v.number v.front) (map seen new)

  emptied_sound : (old new : PassView) → new ≡ record old { notes = [] } → IsSound place.setting old → IsSound place.setting new
  emptied_sound old new is sound = subst (IsSound place.setting) (sym is) (record { legal = sound.legal; mine = sound.mine })

  emptied_served : (old new : PassView) (turns : List Seat) → new ≡ record old { notes = [] } → Served place.setting lines old.front old turns →
      Served place.setting lines new.front new turns
  emptied_served old new turns is served =
      subst (λ (v : PassView). Served place.setting lines v.front v turns) (sym is)
      (record { blocks = served.blocks; turns_are = served.turns_are; mine = served.mine; each = served.each })

  are_left : (ps : List P) (tss : List (List Seat)) (new : List P) (from : ℕ) → AreDoneBy from ps tss →
      EachPair (IsEmptied origin seen place) ps new → AreLeft from ps tss new
  are_left [] [] [] from done pairs = record { of = tt; numbers = refl; sound = tt; served = tt; notes = refl }
  are_left [] [] (n ∷ ns) from done pairs = absurd (omega (arith, pairs.0))
  are_left [] (ts ∷ tss) new from done pairs = absurd done
  are_left (p ∷ ps) [] new from done pairs = absurd done
  are_left (p ∷ ps) (ts ∷ tss) [] from done pairs = absurd (omega (arith, pairs.0))
  are_left (p ∷ ps) (ts ∷ tss) (n ∷ ns) from done pairs =
      let here = pairs.1 0 p (omega arith) in
      let one = done.0 in
      let rest = are_left ps tss ns (from + 1) done.1 (omega (arith, pairs.0), λ i d inside. pairs.1 (suc i) d (omega (arith, inside))) in
      let number : (seen n).number ≡ (seen p).number = ap (λ (v : PassView). v.number) here.pass in
      record {
        of = (here.of, rest.of);
        numbers = ap₂ (λ (k : ℕ) (ks : List ℕ). k ∷ ks) (number ∙ one.number) rest.numbers;
        sound = (emptied_sound (seen p) (seen n) here.pass one.fit.sound, rest.sound);
        served = (emptied_served (seen p) (seen n) ts here.pass one.served, rest.served);
        notes = ap₂ (λ (xs ys : List JoinNote). xs ++ ys)
            (one.fit.noted ∙ sym (ap (λ (v : PassView). notes_of place.setting v.number v.front) here.pass)) rest.notes;
      }

  module _ (IsTicket : Pass ℕ Hand → Type 0) where
    done_by : (workers : List (Worker P)) (from : ℕ) → AreDone origin seen place IsTicket lines from workers →
        AreDoneBy from (map (λ w. w.pass) workers) (map (λ w. w.turns.items) workers)
    done_by [] from are = tt
    done_by (w ∷ ws) from are = (are.0, done_by ws (from + 1) are.3)

    -- the first, hired anew
    pub parted_hired : (ticket : Hand) (workers : List (Worker P)) (parted : Parted P) → AreDone origin seen place IsTicket lines 0 workers →
        0 < length workers → 0 < ticket.parts → IsParted IsTicket ticket workers parted → IsHired origin seen place IsTicket parted.first
    parted_hired ticket [] parted are some parts is = absurd (omega (arith, some))
    parted_hired ticket (w ∷ ws) parted are some parts is =
        let same : parted.first.pass ≡ w.pass = cc (is.passes) in
        let knows = is.knows ∙ done_told origin seen place IsTicket lines (w ∷ ws) 0 ticket are in
        record {
          of = ap origin same ∙ (are.0).of;
          fit = subst (λ (p : P). IsPassFit place.setting (seen p)) (sym same) (are.0).fit;
          queue = is.queue;
          parts = omega (arith, ap (λ (h : Hand). h.parts) knows, parts);
          none = is.none;
          memory = is.memory;
        }

    of_others : (workers : List (Worker P)) (from : ℕ) → AreDone origin seen place IsTicket lines from workers →
        All (λ p. origin p ≡ place) (map (λ w. w.pass) workers)
    of_others [] from are k d inside = absurd (omega (arith, inside))
    of_others (w ∷ ws) from are zero d inside = (are.0).of
    of_others (w ∷ ws) from are (suc k) d inside = of_others ws (from + 1) are.3 k d (omega (arith, inside))

    -- the first as it is now, and the others
    pub parted_of : (ticket : Hand) (workers : List (Worker P)) (parted : Parted P) (pass : P) → AreDone origin seen place IsTicket lines 0 workers →
        0 < length workers → IsParted IsTicket ticket workers parted → origin pass ≡ place → All (λ p. origin p ≡ place) (pass ∷ parted.others.items)
    parted_of ticket [] parted pass are some is of = absurd (omega (arith, some))
    parted_of ticket (w ∷ ws) parted pass are some is of = by_index
      where
        others : parted.others.items ≡ map (λ v. v.pass) ws
        others = cc (is.passes)

        by_index : All (λ p. origin p ≡ place) (pass ∷ parted.others.items)
        by_index zero d inside = of
        by_index (suc k) d inside =
            subst (All (λ p. origin p ≡ place)) (sym others) (of_others ws 1 are.3) k d (omega (arith, inside))

    pub played_live : (ticket : Hand) (workers : List (Worker P)) (parted : Parted P) (last : Worker P) (played : Played P) →
        AreDone origin seen place IsTicket lines 0 workers → 0 < length workers → length workers ≡ place.setting.plan.passes →
        ticket.parts + length workers ≡ 1024 → ticket.taken ≡ [] → IsParted IsTicket ticket workers parted →
        origin last.pass ≡ place → IsPassFit place.setting (seen last.pass) → HasAll place.setting (seen last.pass) →
        HasServed place.setting lines (seen parted.first.pass) (seen last.pass) last.turns.items →
        HasTaken (view parted.first.ticket) (view last.ticket) last.turns.items →
        IsTogether origin seen place (last.pass ∷ parted.others.items) (parted.turns.items ++ last.turns.items) played →
        IsPlayedLive origin seen place lines ticket.put played
    played_live ticket [] parted last played are some count whole none is of fit all serves taken together = absurd (omega (arith, some))
    played_live ticket (w ∷ ws) parted last played are some count whole none is of fit all serves taken together = record {
      of = left.of;
      all = record {
        numbers = left.numbers ∙ ap (numbers_from 0) same_count;
        first = first_all played.passes.items pairs;
      };
      sound = left.sound;
      turns = tss;
      served = left.served;
      put = subst (λ (others : List Seat). IsPermutation (own ++ others) played.turns.items)
          (sym (flat_map-map (λ (ts : List Seat). ts) (λ (v : Worker P). v.turns.items) ws))
          (turned w.turns.items more rest played.turns.items
          (subst (λ (ts : List Seat). IsPermutation (ts ++ more) played.turns.items) is.turns together.put));
      order = together.order;
      taken = λ txn. numbers_are txn;
      notes = subst (λ (ns : List JoinNote). IsPermutation ns played.notes.items) left.notes together.notes;
      notes_order = together.notes_order;
    }
      where
        same : parted.first.pass ≡ w.pass
        same = cc (is.passes)

        others : parted.others.items ≡ map (λ v. v.pass) ws
        others = cc (is.passes)

        length_of : (vs : List (Worker P)) → length (map (λ v. v.pass) vs) ≡ length vs
        length_of [] = refl
        length_of (v ∷ vs) = ap suc (length_of vs)

        same_count : suc (length parted.others.items) ≡ place.setting.plan.passes
        same_count = omega (arith, count, ap length others, length_of ws)

        more : List Seat
        more = last.turns.items

        rest : List Seat
        rest = flat_map (λ (v : Worker P). v.turns.items) ws

        own : List Seat
        own = w.turns.items ++ more

        tss : List (List Seat)
        tss = own ∷ map (λ v. v.turns.items) ws

        pairs : EachPair (IsEmptied origin seen place) (last.pass ∷ parted.others.items) played.passes.items
        pairs = together.passes_are

        first_done : IsDone origin seen place lines 0 last.pass own
        first_done =
            let then = subst (λ (p : P). HasServed place.setting lines (seen p) (seen last.pass) more) same serves in
            record {
              of = of;
              fit = fit;
              number = then.number ∙ (are.0).number;
              served = served_then place.setting lines (seen w.pass) (seen last.pass) w.turns.items more (are.0).served then;
            }

        done : AreDoneBy 0 (last.pass ∷ parted.others.items) tss
        done = (first_done, subst (λ (ps : List P). AreDoneBy 1 ps (map (λ v. v.turns.items) ws)) (sym others) (done_by ws 1 are.3))

        left : AreLeft 0 (last.pass ∷ parted.others.items) tss played.passes.items
        left = are_left (last.pass ∷ parted.others.items) tss played.passes.items 0 done pairs

        first_all : (new : List P) → EachPair (IsEmptied origin seen place) (last.pass ∷ parted.others.items) new →
            FirstHasAll place.setting (map seen new)
        first_all [] ps = absurd (omega (arith, ps.0))
        first_all (n ∷ ns) ps = ap (λ (v : PassView). v.rights) (ps.1 0 last.pass (omega arith)).pass ∙ all

        knows : view parted.first.ticket
            ≡ hand (ticket.parts + suc (length ws)) ticket.put
            (ticket.taken ++ (numbers_of w.turns.items ++ flat_map (λ v. numbers_of v.turns.items) ws))
        knows = is.knows ∙ done_told origin seen place IsTicket lines (w ∷ ws) 0 ticket are

        numbers_are : (txn : ℕ) → times txn (flat_map numbers_of tss) ≡ times txn ticket.put
        numbers_are txn =
            let firsts = numbers_of w.turns.items in
            let mores = numbers_of more in
            let rests = flat_map (λ (v : Worker P). numbers_of v.turns.items) ws in
            let one : flat_map numbers_of tss ≡ (firsts ++ mores) ++ rests =
            ap₂ (λ (xs ys : List ℕ). xs ++ ys) (map_append (λ (t : Seat). t.turn.txn) w.turns.items more)
            (flat_map-map numbers_of (λ (v : Worker P). v.turns.items) ws) in
            let all_parts : (view parted.first.ticket).parts ≡ 1024 = ap (λ (h : Hand). h.parts) knows ∙ whole in
            let told = taken.all all_parts txn in
            let after = taken.same ∙ ap (λ (h : Hand). hand h.parts h.put (h.taken ++ mores)) knows in
            let put : (view last.ticket).put ≡ ticket.put = ap (λ (h : Hand). h.put) after in
            let took : (view last.ticket).taken ≡ (firsts ++ rests) ++ mores =
            ap (λ (h : Hand). h.taken) after
            ∙ ap (λ (ns : List ℕ). (ns ++ (firsts ++ rests)) ++ mores) none in
            ap (times txn) one ∙ times_turned txn firsts mores rests ∙ sym (ap (times txn) took) ∙ sym told ∙ ap (times txn) put
