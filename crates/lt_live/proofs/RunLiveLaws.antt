-- What all workers did is told, once the table was closed.
use Rattle.std.proofs.Common.{◌≡◌, ℕ, zero, suc, ◌+◌, List, [], ◌∷◌, ◌++◌, map, length, refl, sym, ap, ap₂, subst, ◌∙◌, arith}
use Rattle.std.specs.Global.{Vec}
use Rattle.std.specs.List.{All, AllByRecursion, filter_map, flat_map}
use Rattle.std.specs.List.Sorted.{IsPermutation, IsNonDecreasingBy}
use Rattle.lt_seq.specs.declared.event.Event.{Event}
use Rattle.lt_seq.specs.declared.event.JoinNote.{JoinNote}
use Rattle.lt_seq.specs.declared.event.Receipt.{Receipt}
use Rattle.lt_seq.specs.declared.yard.Closed.{Closed}
use Rattle.lt_seq.specs.Table.{Setting}
use Rattle.lt_seq.specs.History.{IsFront, IsLegal, calls_from}
use Rattle.lt_seq.specs.Passes.{numbers_from, front_of_first, FirstHasAll, IsRest}
use Rattle.lt_seq.specs.Yard.{PassView, Origin, IsSound}
use Rattle.lt_trace.specs.declared.line.Line.{Line}
use Rattle.lt_trace.specs.Grammar.{txns_of, IsTrace}
use Rattle.lt_trace.specs.Trace.{TraceView}
use Rattle.lt_history.specs.declared.outcome.Ended.{Ended}
use Rattle.lt_runner.specs.declared.transcript.Transcript.{Transcript}
use Rattle.lt_runner.specs.Notes.{notes_in, notes_of}
use Rattle.lt_runner.specs.Serial.{ended_in, setting_of}
use Rattle.lt_runner.specs.TurnView.{Seat}
use Rattle.lt_runner.proofs.OwnNoteLaws.{notes_still}
use Rattle.lt_crew.proofs.NotedLaws.{merged_notes}
use Rattle.lt_live.specs.declared.hire.Played.{Played}
use Rattle.lt_live.specs.Deals.{times}
use Rattle.lt_live.specs.Ends.{EachServed, IsPlayedLive}
use Rattle.lt_live.specs.Live.{AreServed, AllWorked}
use Rattle.lt_live.specs.RunLive.{IsToldLive, notes_told}
use Rattle.lt_live.proofs.LiveLaws.{blocks_on}
use Rattle.lt_live.proofs.ToldLaws.{told_live}

-- what each pass has seen is a front of the history
served_on : (setting : Setting) (lines : List Line) (history : List Event) (views : List PassView) (turns : List (List Seat)) →
    All (λ p. IsFront p.front history) views → EachServed setting lines views turns → AreServed setting lines history views turns
served_on setting lines history [] [] fronts each = tt
served_on setting lines history [] (ts ∷ tss) fronts each = absurd each
served_on setting lines history (v ∷ vs) [] fronts each = absurd each
served_on setting lines history (v ∷ vs) (ts ∷ tss) fronts each =
    let one = each.0 in (
      record {
        blocks = one.blocks;
        turns_are = one.turns_are;
        mine = one.mine;
        each = blocks_on setting lines v.front history one.blocks (fronts 0 v (omega arith)) one.each;
      },
      served_on setting lines history vs tss (λ i d inside. fronts (suc i) d (omega (arith, inside))) each.1,
    )

legal_first : (setting : Setting) (views : List PassView) → FirstHasAll setting views → AllByRecursion (IsSound setting) views →
    IsLegal setting (front_of_first views)
legal_first setting [] first sound = absurd first
legal_first setting (v ∷ vs) first sound = (sound.0).legal

-- a pass has seen all its own calls, so that its own notes are those in the whole history
own_whole : (setting : Setting) (history : List Event) (view : PassView) (n : ℕ) → view.number ≡ n →
    view.mine ≡ calls_from setting.plan.first n history → IsSound setting view → IsFront view.front history →
    notes_of setting view.number view.front ≡ notes_of setting n history
own_whole setting history view n number mine sound front =
    let first = setting.plan.first in
    let calls : calls_from first view.number history ≡ calls_from first view.number view.front =
    ap (λ (k : ℕ). calls_from first k history) number ∙ sym mine ∙ sound.mine in
    sym (notes_still setting view.number view.front history front (omega (arith, ap length calls)))
    ∙ ap (λ (k : ℕ). notes_of setting k history) number

notes_whole : (setting : Setting) (history : List Event) (views : List PassView) (from count : ℕ) →
    map (λ (v : PassView). v.number) views ≡ numbers_from from count →
    map (λ (v : PassView). v.mine) views ≡ map (λ n. calls_from setting.plan.first n history) (numbers_from from count) →
    AllByRecursion (IsSound setting) views → All (λ p. IsFront p.front history) views →
    flat_map (λ p. notes_of setting p.number p.front) views ≡ flat_map (λ n. notes_of setting n history) (numbers_from from count)
notes_whole setting history [] from zero numbers mine sound fronts = refl
notes_whole setting history [] from (suc count) numbers mine sound fronts = absurd (omega (arith, ap length numbers))
notes_whole setting history (v ∷ vs) from zero numbers mine sound fronts = absurd (omega (arith, ap length numbers))
notes_whole setting history (v ∷ vs) from (suc count) numbers mine sound fronts =
    let number : v.number ≡ from = cc (numbers) in
    let others : map (λ (w : PassView). w.number) vs ≡ numbers_from (from + 1) count = cc (numbers) in
    let own : v.mine ≡ calls_from setting.plan.first from history = cc (mine) in
    let theirs : map (λ (w : PassView). w.mine) vs ≡ map (λ n. calls_from setting.plan.first n history) (numbers_from (from + 1) count) =
    cc (mine) in
    ap₂ (λ (xs ys : List JoinNote). xs ++ ys) (own_whole setting history v from number own sound.0 (fronts 0 v (omega arith)))
    (notes_whole setting history vs (from + 1) count others theirs sound.1 (λ i d inside. fronts (suc i) d (omega (arith, inside))))

module _ {P : Type 0} (origin : P → Origin) (seen : P → PassView) (place : Origin) where
  worked : (lines : List Line) (numbers : List ℕ) (played : Played P) (closed : Closed) →
      (done : IsPlayedLive origin seen place lines numbers played) → numbers ≡ txns_of lines →
      IsRest place.setting (front_of_first (map seen played.passes.items)) (map seen played.passes.items) closed →
      AllWorked place.setting lines (front_of_first (map seen played.passes.items)) (map seen played.passes.items) done.turns
  worked lines numbers played closed done all rest = record {
    legal = legal_first place.setting (map seen played.passes.items) done.all.first done.sound;
    served = served_on place.setting lines (front_of_first (map seen played.passes.items)) (map seen played.passes.items) done.turns rest.fronts
        done.served;
    lists = sym rest.mine ∙ rest.lists;
    taken = λ txn. done.taken txn ∙ ap (times txn) all;
  }

  notes_are : (lines : List Line) (numbers : List ℕ) (played : Played P) (closed : Closed) →
      IsPlayedLive origin seen place lines numbers played →
      IsRest place.setting (front_of_first (map seen played.passes.items)) (map seen played.passes.items) closed →
      played.notes.items ≡ notes_in place.setting (front_of_first (map seen played.passes.items))
  notes_are lines numbers played closed done rest =
      let views = map seen played.passes.items in
      let history = front_of_first views in
      let own = notes_whole place.setting history views 0 place.setting.plan.passes done.all.numbers (sym rest.mine ∙ rest.lists) done.sound
      rest.fronts in
      merged_notes place.setting history played.notes.items (legal_first place.setting views done.all.first done.sound)
      (subst (λ (ns : List JoinNote). IsPermutation ns played.notes.items) own done.notes) done.notes_order

  -- what is told, and the notes that the watches are told
  pub record IsTold (trace : TraceView) (passes first : ℕ) (notes : List JoinNote) (transcript : Transcript) : Type 0 where
    pub history : List Event
    pub told : IsToldLive trace passes first history transcript
    pub notes_are : notes ≡ notes_told trace passes first transcript

  pub told_played : (trace : TraceView) (passes first : ℕ) (lines : List Line) (numbers : List ℕ) (played : Played P) (closed : Closed)
      (receipts : Vec Receipt) (outcomes : Vec Ended) → place.setting ≡ setting_of trace passes first → lines ≡ trace.lines → IsTrace trace →
      numbers ≡ txns_of lines → IsPlayedLive origin seen place lines numbers played →
      IsRest place.setting (front_of_first (map seen played.passes.items)) (map seen played.passes.items) closed →
      IsPermutation (flat_map (λ (list : Vec Receipt). list.items) closed.lists.items) receipts.items →
      IsNonDecreasingBy (λ r. r.place) receipts.items → outcomes.items ≡ filter_map (λ seat. ended_in seat.turn) played.turns.items →
      IsTold trace passes first played.notes.items (record { receipts = receipts; outcomes = outcomes; places = closed.places; used = closed.used })
  told_played trace passes first lines numbers played closed receipts outcomes same is is_trace all done rest put order ends =
      let views = map seen played.passes.items in
      let history = front_of_first views in
      let done_work = subst (λ (ls : List Line). AllWorked place.setting ls history views done.turns) is
      (worked lines numbers played closed done all rest) in
      let told = told_live trace passes first place.setting history views views done.turns played.turns.items closed receipts outcomes same is_trace
      done_work rest put order done.put done.order ends in
      record {
        history = history;
        told = told;
        notes_are = notes_are lines numbers played closed done rest ∙ ap (λ (s : Setting). notes_in s history) same ∙ sym told.notes;
      }
