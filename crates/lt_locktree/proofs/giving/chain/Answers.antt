use Rattle.std.proofs.Common.{reverse, take, get_or, ◌≡◌, ◌+◌, ◌∙◌, ℕ, List, [], ◌∷◌, ◌++◌, ap, sym, refl, subst}
use Rattle.std.proofs.lemmas.List.{take_more, take_all}
use Rattle.lt_forest.specs.declared.part.PartRow.{PartRow}
use Rattle.lt_rows.specs.declared.image.RowImage.{RowImage}
use Rattle.lt_rows.proofs.ThreeRows.{is_left}
use Rattle.lt_locktree.specs.Given.{Chains}
use Rattle.lt_locktree.proofs.ChainLaws.{chains_none, chains_one}
use Rattle.lt_locktree.proofs.giving.chain.Goals as goal

pub loop-row-init : goal.loop-row-init
loop-row-init c = chains_none c.args.images.now.items c.args.rest

pub loop-row-preserved : goal.loop-row-preserved
loop-row-preserved c =
    let rows : List PartRow = c.args.rows.now in
    let i : ℕ = c.loop-row.row-index in
    let r : PartRow = c.row-item.result in
    let is : r ≡ get_or rows i r = c.row-item.is in
    let image : RowImage = record { row = r.row; words = 0 ∷ 0 ∷ 0 ∷ 0 ∷ 0 ∷ 0 ∷ 0 ∷ 0 ∷ 0 ∷ 0 ∷ 0 ∷ 0 ∷ 0 ∷ 0 ∷ 0 ∷ 0 ∷ 0 ∷ c.loop-row.link ∷ 0 ∷ 0 ∷ 0 ∷ [] } in
    let more : take (i + 1) rows ≡ take i rows ++ r ∷ [] =
    take_more rows i r c.loop-row-test.true ∙ ap (λ (x : PartRow). take i rows ++ x ∷ []) (sym is) in
    subst (λ (n : ℕ). Chains c.args.images.now.items c.push.new.self.items (n + 1) (reverse (take (i + 1) rows)) c.args.rest) (sym c.from-link.ensures)
    (subst (λ (rs : List PartRow). Chains c.args.images.now.items c.push.new.self.items (r.row + 1) (reverse rs) c.args.rest) (sym more)
    (chains_one c.args.images.now.items c.loop-row.images.items c.push.new.self.items c.loop-row.link c.args.rest (take i rows) r image
    c.loop-row.invariant refl (is_left image.words) c.in_ok-push.ensures.items))

pub returns : goal.returns
returns c =
    let rows : List PartRow = c.args.rows.now in
    let i : ℕ = c.loop-row.row-index in
    subst (λ (rs : List PartRow). Chains c.args.images.now.items c.loop-row.images.items c.loop-row.link (reverse rs) c.args.rest)
    (take_all i rows c.loop-row-test.false) c.loop-row.invariant
