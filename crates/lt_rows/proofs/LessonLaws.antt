-- What a pass reads off its own rows.
use Rattle.std.proofs.Common.{◌++◌, refl, subst}
use Rattle.lt_ranges.specs.Interval.{IsInterval}
use Rattle.lt_rows.specs.Plan.{setting_of}
use Rattle.lt_seq.proofs.LawfulLaws.{sound_history}
use Rattle.lt_forest.proofs.PairLists.{lawful_has}
use Rattle.lt_rows.specs.Nodes.{node_of}
use Rattle.lt_rows.specs.LawsOfLessons.{HistoryIsLegal, CommitIsLegal, AnchorShowsMode, NoLinkShowsNoPairs, AnchorIsLinked, GappedRowIsLinked, PartRowIsLinked, LinksNameFurtherRows, NoRowIsNamedTwice, NoneLeadsBackToItself, PoolNamesNoGappedRow, LicensedFindsVacant, GappedRowShowsRange, PartShowsPairsOfTree, ClosedPartShowsAll, WholePartShowsTree, WholeChainShowsBuffer}
use Rattle.lt_rows.proofs.Lessons.{legal, mode_shown, none_there, of_anchor, of_gap, of_part, names_further, names_apart, none_back, pool_apart, vacant, part_shows, part_has_all, whole_shows, chain_shows}
use Rattle.lt_rows.proofs.RuleLaws.{placed_pair}
use Rattle.lt_rows.proofs.WoodCommits.{may_commit}
use Rattle.lt_rows.specs.Words.{added}

pub history_is_legal : HistoryIsLegal
history_is_legal v log st = legal v log st

pub commit_is_legal : CommitIsLegal
commit_is_legal v rest e plan change st mark commit =
    (may_commit v.plan v e plan change (added change) commit refl st.forest st.contents (v.front ++ rest) rest mark refl st.shape st.agrees st.gaps).shape.legal

pub anchor_shows_mode : AnchorShowsMode
anchor_shows_mode v log t st lt held = mode_shown v log st t lt held

pub no_link_shows_no_pairs : NoLinkShowsNoPairs
no_link_shows_no_pairs v log t score st lt held is none = none_there v log st t score lt held is none

pub anchor_is_linked : AnchorIsLinked
anchor_is_linked v log t st le = of_anchor v log st t le

pub gapped_row_is_linked : GappedRowIsLinked
gapped_row_is_linked v log r row g st held is = of_gap v log st r row g held is

pub part_row_is_linked : PartRowIsLinked
part_row_is_linked v log t top score cut q st lt knows part row = of_part v log st t top score cut q lt knows part row

pub links_name_further_rows : LinksNameFurtherRows
links_name_further_rows v log s st held link = names_further v log st s held link

pub no_row_is_named_twice : NoRowIsNamedTwice
no_row_is_named_twice v log s l r st held held' one two ne is is' = names_apart v log st s l r held held' one two ne is is'

pub none_leads_back_to_itself : NoneLeadsBackToItself
none_leads_back_to_itself v log t q st lt way = none_back v log st t q lt way

pub pool_names_no_gapped_row : PoolNamesNoGappedRow
pool_names_no_gapped_row v log r row g st held there is link = pool_apart v log st r row g held there is link

pub licensed_finds_vacant : LicensedFindsVacant
licensed_finds_vacant v log st licensed held = vacant v log st licensed held

pub gapped_row_shows_range : GappedRowShowsRange
gapped_row_shows_range v log r row g st held is =
    let p = st.gaps r row g held is in
    let f = st.shape.forest in
    subst (λ ws. IsInterval (node_of ws).range) (st.agrees r row held)
    (lawful_has _ _ (sound_history (setting_of v.plan) log st.shape.legal g.tree).lawful (placed_pair _ _ _ _ _ r (g.low, g.high) (f.grown g.tree p.tree) p.gap))

pub part_shows_pairs_of_tree : PartShowsPairsOfTree
part_shows_pairs_of_tree v log t top score cut p st lt knows part h = part_shows v log st t top score cut lt knows part p h

pub closed_part_shows_all : ClosedPartShowsAll
closed_part_shows_all v log t top score cut range p st lt knows part closed h over = part_has_all v log st t top score cut lt knows part range closed p h over

pub whole_part_shows_tree : WholePartShowsTree
whole_part_shows_tree v log t score cut st lt knows part closed = whole_shows v log st t score cut lt knows part closed

pub whole_chain_shows_buffer : WholeChainShowsBuffer
whole_chain_shows_buffer v log t owner count chain st held lt is leads = chain_shows v log st t owner count chain held lt is leads
