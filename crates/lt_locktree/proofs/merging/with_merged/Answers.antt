use Rattle.std.proofs.Common.{rules, length, [], append_assoc, ◌≡◌, ◌+◌, ◌-◌, ◌++◌, ◌∷◌, List, fold, get_or, take, drop, ap, ◌∙◌}
use Rattle.lt_ranges.specs.Interval.{Interval, hull}
use Rattle.lt_forest.specs.declared.part.PartRow.{PartRow}
use Rattle.lt_locktree.specs.LawsOfGrants.{merged_row}
use Rattle.lt_locktree.specs.Mergings.{run_of, merged_hangs}
use Rattle.lt_locktree.proofs.MergedRows.{run_at, from_start, behind_all, all_own, span_of_own}
use Rattle.lt_locktree.proofs.merging.with_merged.Goals as goal

pub returns : goal.returns
returns c =
    let rows : List PartRow = c.args.part.now.rows.items in
    let hangs = c.args.part.now.hangs.items in
    let txn = c.args.asking.now.txn in
    let range : Interval = c.args.asking.now.range in
    let start = c.args.met.start in
    let end = c.args.met.end in
    let r : PartRow = c.index.result.now in
    let is : r ≡ get_or rows start r = search rules in
    let own = all_own txn range rows start end r c.requires.some c.requires.within is c.requires.own in
    let made : PartRow = record { row = r.row; owner = txn; range = c.span_of.result } in
    let spanned : c.span_of.result ≡ fold (λ (i : Interval) (x : PartRow). hull i x.range) range (take (end - start) (drop start rows)) =
    search rules in
    let one : made ≡ merged_row txn range r (run_of rows start end) =
    ap (λ (i : Interval). record { row = r.row; owner = txn; range = i })
    (spanned
    ∙ (ap (fold (λ (i : Interval) (x : PartRow). hull i x.range) range) (from_start rows start end r c.requires.some c.requires.within is)
    ∙ span_of_own txn range (r ∷ run_of rows start end) own)) in
    let ahead : c.push.new.self.items ≡ take start rows ++ made ∷ [] = search rules in
    let shown : c.extend_from_slice-2.new.self.items ≡ c.push.new.self.items ++ take (length rows - end) (drop end rows) = search rules in
    let laid : c.extend_from_slice-2.new.self.items ≡ take start rows ++ made ∷ drop end rows =
    shown
    ∙ ((λ j. ahead j ++ behind_all rows end j) ∙ append_assoc (take start rows) (made ∷ []) (drop end rows)) in
    let front : c.extend_from_slice-3.new.self.items ≡ take (start + 1) hangs = search rules in
    let shown_hangs : c.extend_from_slice-4.new.self.items ≡ c.extend_from_slice-3.new.self.items ++ take (length hangs - end) (drop end hangs) =
    search rules in
    let hung : c.extend_from_slice-4.new.self.items ≡ merged_hangs hangs start end =
    shown_hangs ∙ (λ j. front j ++ behind_all hangs end j) in (
      r,
      run_at rows start end r c.requires.some c.requires.within is,
      laid ∙ ap (λ (x : PartRow). take start rows ++ x ∷ drop end rows) one,
      hung,
    )
