use Rattle.std.proofs.Common.{rules, ◌≡◌, ◌+◌, ◌∙◌, ap, sym, subst, List, ℕ, map, take}
use Rattle.std.proofs.lemmas.List.{take_all}
use Rattle.lt_ranges.specs.declared.key.Key.{Key}
use Rattle.lt_ranges.specs.Interval.{Interval}
use Rattle.lt_seq.specs.Pairs.{joined}
use Rattle.lt_forest.specs.Parts.{row_pair, numbers}
use Rattle.lt_locktree.specs.LawsOfJoins.{StayOrGo}
use Rattle.lt_forest.specs.declared.part.PartRow.{PartRow}
use Rattle.lt_locktree.proofs.RejoiningLaws.{JoinsSome, first_alone, one_taken_in, one_apart}
use Rattle.lt_locktree.proofs.rejoining.rejoin.Goals as goal
use Rattle.lt_locktree.proofs.rejoining.rejoin.Goals.{then-are_joined+in_ok-push, else-are_joined+in_ok-push-2}

pub loop-i-init : goal.loop-i-init
loop-i-init c =
    subst (λ (x : List PartRow × List PartRow). JoinsSome c.args.marks.now c.args.rows.now 1 x.0 c.index-rows-0.result x.1)
    (λ j. (sym c.new-kept.ensures.items j, sym c.new-gone.ensures.items j))
    (first_alone c.args.marks.now c.args.rows.now c.index-rows-0.result (search rules) c.index-rows-0.is c.requires)

pub loop-i-preserved : goal.loop-i-preserved
loop-i-preserved c =
    let marks : List Key = c.args.marks.now in
    let rows : List PartRow = c.args.rows.now in
    let i : ℕ = c.loop-i.i in
    let r : PartRow = c.index-rows-i.result in
    let last : PartRow = c.loop-i.last in
    elim c.if-are_joined.branch [
      | then-are_joined+in_ok-push w ↦
          subst (λ (x : List PartRow × List PartRow). JoinsSome marks rows (i + 1) x.0 c.if-are_joined.last x.1)
          (λ j. (sym (ap (λ v. v.items) w.kept-is) j, sym (ap (λ v. v.items) w.gone-is ∙ w.in_ok-push.ensures.items) j))
          (one_taken_in marks rows i c.loop-i.kept.items last c.loop-i.gone.items r c.loop-i.invariant c.loop-i-test.true c.index-rows-i.is
          c.if-are_joined.last (search rules)
          (w.last-is ∙ ap (λ (range : Interval). record { row = last.row; owner = last.owner; range = range }) w.hull-last.ensures))
      | else-are_joined+in_ok-push-2 w ↦
          subst (λ (x : (List PartRow × List PartRow) × PartRow). JoinsSome marks rows (i + 1) x.0.0 x.1 x.0.1)
          (λ j. ((sym (ap (λ v. v.items) w.kept-is ∙ w.in_ok-push-2.ensures.items) j, sym (ap (λ v. v.items) w.gone-is) j), sym w.last-is j))
          (one_apart marks rows i c.loop-i.kept.items last c.loop-i.gone.items r c.loop-i.invariant c.loop-i-test.true c.index-rows-i.is
          (search rules))
    ]

pub returns : goal.returns
returns c =
    let marks : List Key = c.args.marks.now in
    let rows : List PartRow = c.args.rows.now in
    let i : ℕ = c.loop-i.i in
    let s = c.loop-i.invariant in
    let all : take i rows ≡ rows = take_all i rows c.loop-i-test.false in
    record {
      pairs = subst (λ (x : List PartRow × List PartRow). map row_pair x.0 ≡ joined marks (map row_pair x.1))
          (λ j. (sym c.in_ok-push-3.ensures.items j, all j)) s.pairs;
      parted = subst (λ (x : List PartRow × List PartRow). StayOrGo x.1 x.0 (numbers c.loop-i.gone.items))
          (λ j. (sym c.in_ok-push-3.ensures.items j, all j)) s.parted;
    }
