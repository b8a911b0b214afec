-- A join: each longest run of neighbours of one owner becomes one row.
use Rattle.std.proofs.Common.{◌≡◌, ℕ, zero, suc, ◌+◌, List, [], ◌∷◌, map, length, replicate, refl, sym, ap, ◌∙◌, subst, arith, append-nil}
use Rattle.std.specs.Prelude.{None}
use Rattle.std.proofs.lemmas.List.{length-map}
use Rattle.lt_ranges.specs.Interval.{whole}
use Rattle.lt_seq.specs.declared.event.Pair.{Pair}
use Rattle.lt_seq.specs.declared.event.Mode.{Mode}
use Rattle.lt_seq.specs.declared.event.Mode.TheVariants.{Tree as TreeMode}
use Rattle.lt_seq.specs.declared.event.Deed.TheVariants.{Join}
use Rattle.lt_rows.specs.declared.row_plan.RowPlan.{RowPlan}
use Rattle.lt_seq.specs.Pairs.{joined}
use Rattle.lt_rows.specs.Plan.{setting_of}
use Rattle.lt_forest.specs.declared.part.PartRow.{PartRow}
use Rattle.lt_forest.specs.Counts.{times}
use Rattle.lt_forest.specs.Bounds.{Bound}
use Rattle.lt_forest.specs.Trees.{Nodes, in_order, pairs_in}
use Rattle.lt_forest.specs.Cuts.{Cut, End, bare, ends, Looser}
use Rattle.lt_forest.specs.Parts.{rows_of, hangs_of, row_pair, numbers, hanging}
use Rattle.lt_forest.specs.Plans.{ShowsDeed, SameRows}
use Rattle.lt_forest.specs.Views.{PlansOnly}
use Rattle.lt_forest.proofs.PublicLaws.{ends_are_hanging, rows_show_pairs}
use Rattle.lt_forest.proofs.RowsAndHangs.{numbers_of}
use Rattle.lt_rows.specs.Views.{planned_rows}
use Rattle.lt_rows.specs.Lawful.{shown, shown_after, mode_before, mode_after}
use Rattle.lt_locktree.specs.LawsOfJoins.{JoinCommits}
use Rattle.lt_locktree.proofs.HeldParts.{sub_pairs}
use Rattle.lt_locktree.proofs.GrantedRuns.{sub_held, numbers_are, length-numbers, counted}
use Rattle.lt_locktree.proofs.Relays.{IsBesideRow, relay_commits}

-- where all hangs are 0, nothing hangs
none_hang : (rows : List PartRow) (n : ℕ) (x y : Bound) → hanging rows (replicate n 0) x y ≡ []
none_hang rows zero x y = refl
none_hang [] (suc n) x y = refl
none_hang (r ∷ rows) (suc n) x y = none_hang rows n _ y

no_ends : (c : Nodes) (cut : Cut) (rows : List PartRow) (n : ℕ) → rows_of c cut ≡ rows → hangs_of cut ≡ replicate n 0 → ends c cut None None ≡ []
no_ends c cut rows n rows_are hangs_are =
    ends_are_hanging c cut None None
    ∙ ((λ j. hanging (rows_are j) (hangs_are j) None None) ∙ none_hang rows n None None)

join_shows : (k : RowPlan) (txn tree : ℕ) (c d : Nodes) (sub new : Cut) (was now : Mode) (s : ℕ) → was ≡ TreeMode s → now ≡ was
    → pairs_in d (bare new) ≡ joined k.marks (pairs_in c (bare sub))
    → ShowsDeed (setting_of k) txn
    (Join tree (length (pairs_in c (bare sub))) (length (joined k.marks (pairs_in c (bare sub))))) c d sub new was now
join_shows k txn tree c d sub new was now s e f pairs =
    subst (λ (m : Mode × Mode). ShowsDeed (setting_of k) txn
    (Join tree (length (pairs_in c (bare sub))) (length (joined k.marks (pairs_in c (bare sub))))) c d sub new m.0 m.1)
    (λ j. (sym e j, sym (f ∙ e) j))
    (record { was_tree = tt; is_tree = tt; pairs = pairs; mode = refl; replies = refl; question = tt })

pub join_commits : JoinCommits
join_commits v tree here rows rows' more given plan e change l closed lt at join laid mode parted pool only pass is counts =
    let zeros : List ℕ = replicate (length rows + 1) 0 in
    let c : Nodes = shown v plan in
    let d : Nodes = shown_after v plan in
    let mine : List Pair = pairs_in c (bare l.sub) in
    let same_pairs : map row_pair rows ≡ mine = sub_pairs v tree whole here rows zeros more l lt in
    let numbers_is : in_order (bare l.sub) ≡ numbers rows = numbers_are v tree whole here rows zeros more l closed lt in
    let new_numbers : in_order (bare laid.new) ≡ numbers rows' = sym (numbers_of d (in_order (bare laid.new))) ∙ ap numbers laid.rows_are in
    let pairs : pairs_in d (bare laid.new) ≡ joined v.plan.marks mine =
    sym (rows_show_pairs d laid.new)
    ∙ (ap (λ (rs : List PartRow). map row_pair rs) laid.rows_are ∙ (join ∙ ap (joined v.plan.marks) same_pairs)) in
    let same : SameRows l.sub laid.new [] given =
    record {
      each = λ q. let k = parted.each q in let a = ap (times q) numbers_is in let b = ap (times q) new_numbers in omega arith;
      all = let k = parted.all in
          let a = ap (λ (ns : List ℕ). length ns) numbers_is ∙ length-numbers rows in
          let b = ap (λ (ns : List ℕ). length ns) new_numbers ∙ length-numbers rows' in omega arith;
    } in
    let loose : Looser (ends c l.sub None None) (ends d laid.new None None) =
    subst (λ (x : List End × List End). Looser x.0 x.1)
    (λ j. (sym (no_ends c l.sub rows (length rows + 1) l.rows_are l.hangs_are) j, sym (no_ends d laid.new rows' (length rows' + 1) laid.rows_are laid.hangs_are) j))
    tt in
    let long : length rows ≡ length mine = sym (length-map rows row_pair) ∙ ap (λ (ps : List Pair). length ps) same_pairs in
    let new_long : length rows' ≡ length (joined v.plan.marks mine) =
    sym (length-map rows' row_pair) ∙ ap (λ (ps : List Pair). length ps) (join ∙ ap (joined v.plan.marks) same_pairs) in
    relay_commits v tree whole here rows zeros more l closed lt plan laid.new [] given e.txn
    (Join tree (length mine) (length (joined v.plan.marks mine))) refl refl tt laid.shows laid.beside
    (λ q some. sub_held v tree whole here rows zeros more l closed lt q (let s = same.each q in omega arith))
    loose same pool
    (subst (λ (ns : List ℕ). PlansOnly (here ∷ v.plan.trees ∷ ns) (planned_rows plan)) (sym (append-nil (in_order (bare l.sub)) ∙ numbers_is)) only)
    (λ _ was. join_shows v.plan e.txn tree c d l.sub laid.new (mode_before v plan tree) (mode_after v plan tree) l.score was mode pairs)
    (λ s h b. absurd (subst IsBesideRow at b))
    e change pass refl (is ∙ (λ j. Join tree (long j) (new_long j)))
    (λ k. counted change (length given) (length (in_order (bare l.sub))) (length (in_order (bare laid.new))) k counts (let s = same.all in omega arith))
    (λ some. absurd (omega arith))
