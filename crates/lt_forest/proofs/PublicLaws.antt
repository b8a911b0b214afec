-- Each public law of forests, parts, deeds and plans, to be cited by its name.
use Rattle.std.proofs.Common.{refl, subst, sym, [], ◌∷◌}
use Rattle.lt_forest.specs.LawsOfGaps.{RowsHaveOneGap, LeftChildsGap, RightChildsGap, SeenIsWithin, TopIsSeen, LeftIsSeen, RightIsSeen}
use Rattle.lt_forest.specs.LawsOfParts.{TreesAreOrdered, ReplacedIsInOrder, VisitLeavesOutNone, VisitedIsClosed, ClosedPartHasAll, PartShowsPairs, WholePartShowsAll, EmptyTreeHasNone, PartIsReplaced, PartIsLaidForDeed, PartIsLaidAgain, TopRowStays}
use Rattle.lt_forest.specs.LawsOfBuffers.{ChainShowsBuffer, FrontIsGranted, BufferBegins, BufferGrows, BufferEnds, BufferIsDropped, OwnerIsAlone}
use Rattle.lt_forest.specs.LawsOfRows.{RowsAddUp, VacantIsThere, OpeningIsForest, LinksNameFurther, NoneIsNamedTwice, NoneLeadsBack, NoneOfPoolLeadsBack, PoolIsApart, GapRowsAreLinked, PartRowsAreLinked, RunRowsAreLinked, PoolRowsAreLinked, TreeRowsAreFurther, PoolRowsAreFurther, RunRowsAreFurther, TakenRowsAreFurther, PartRowsAreFurther, ForestReadsItsRows}
use Rattle.lt_forest.specs.LawsOfOrder.{EndsAreHanging, EndsAreBetween, SameOrderKeeps, LeavingOutLoosens, MergingLoosens, PartWidens, PlacedShows, MiddleDecides, OwnBecomeOne, SpanMayMerge, MergedRunLoosens, PutInLoosens, RowsShowPairs, NoneIsLeftOut, OneIsKept, OneIsLeftOut, LeftOutLoosens, LeftOutIsFreed, MergedRunIsGranted, MergedRunKeepsRows, PutInKeepsRows, LeftOutKeepsRows}
use Rattle.lt_forest.specs.LawsOfViews.{TopIsRead, LeftIsRead, RightIsRead, ReadLinksNameFurther, NoneIsReadTwice, NoneIsReadBack, PoolIsReadApart, VacantIsRead, HeldPartShowsPairs, HeldPartHasAll, HeldWholeShowsAll, HeldChainShowsBuffer, PlanServesDeed, PlanServesLayout, PlanServesReplacement, PlanBegins, PlanAppends, PlanEndsBuffer, PlanDropsBuffer, ReadRunIsFurther, ReadPoolIsFurther, HeldPartIsFurther}
use Rattle.lt_forest.specs.LawsOfPlans.{OtherAnchorsStay, PlanKeepsAnchors, FirstKeepsAnchors, EndKeepsAnchors, DropKeepsAnchors, PartGapIsRead, TopKeepsGap, GivenAreNamedWithin, ChainIsNamedWithin, GivenAreNamedByHeld, ChainIsNamedByHeld}
use Rattle.lt_forest.proofs.GapLaws.{gap_left, gap_right, has_is, is_has, left_placed, right_placed, row_gap, top_placed, placed_tree}
use Rattle.lt_forest.proofs.StateLaws.{chain_shows, in_order_tree, no_pairs, rows_add_up as all_rows, vacant_there, whole_shows}
use Rattle.lt_forest.proofs.TreeParts.{replaced_ordered}
use Rattle.lt_forest.proofs.PartLaws.{part_has, part_has_all, part_lawful}
use Rattle.lt_forest.proofs.VisitLaws.{visited_all, visited_closed}
use Rattle.lt_forest.proofs.PlanLaws.{replaced, top_not_given, moves}
use Rattle.lt_forest.proofs.EventLaws.{deed_replies, event_relaid, layout_relaid}
use Rattle.lt_forest.proofs.BufferLaws.{append_replies, appended, begin_replies, begun, drop_replies, dropped, end_replies, ended, who_replies, who_stays}
use Rattle.lt_forest.proofs.Openings.{opens}
use Rattle.lt_forest.proofs.NamedOnce.{link_names, links_apart, pool_apart}
use Rattle.lt_forest.proofs.NoWayBack.{none_back, part_links, placed_links, pool_links, pool_none_back, run_links}
use Rattle.lt_forest.proofs.RowsAndHangs.{ends-hanging, ends-items, order_ends, order_pairs, order_rows, pairs_of}
use Rattle.lt_forest.proofs.RunLaws.{merge_looser, sift_looser}
use Rattle.lt_forest.proofs.WidenLaws.{widens}
use Rattle.lt_forest.proofs.LayoutLaws.{laid_shows}
use Rattle.lt_forest.proofs.MiddleSteps.{granted-own, middle_decides as in_the_middle}
use Rattle.lt_forest.proofs.ReadOffRows.{left_read, read_apart, read_back, read_chain, read_has, read_has_all, read_names, read_pool_apart, read_vacant, read_whole, right_read, top_read, read_run_further, read_pool_further, read_pool_back, read_empty}
use Rattle.lt_forest.proofs.PlansInView.{view_relaid, view_replaced, view_replies, view_settled, true_part, anchors_apart, held_same, true_pairs}
use Rattle.lt_forest.proofs.BuffersInView.{view_append_replies, view_appended, view_begin_replies, view_begun, view_drop_replies, view_dropped, view_end_replies, view_ended, first_apart, end_apart, drop_apart}
use Rattle.lt_forest.proofs.FurtherRows.{in_tree_further, in_pool_further, run_further, taken_further, part_further, forest_same}
use Rattle.lt_forest.proofs.ForestLaws.{anchors}
use Rattle.lt_forest.proofs.PartGaps.{on_part_gap, top_gap}
use Rattle.lt_forest.specs.Views.{IsIn}
use Rattle.lt_forest.specs.Trees.{in_order}
use Rattle.lt_forest.specs.Cuts.{bare, AllAside}
use Rattle.lt_forest.specs.LawsOfSearches.{PartIsLawful, HeldPartIsLawful, LawfulPartAscends, LawfulListSplits, WidenedIsPart, WidenedIsClosed, HeldWidenedIsPart, HeldWidenedIsClosed, NoneHangsBetween, NoneHangsThere, ReachedAreNotAside, ClosedIsVisited, HangsNameOthers, HeldHangsNameOthers, CutRowsAreNamed, HeldRowsAreNamed, GapRowsTreeMode, NoneOfPoolIsReadBack, EmptyTreeIsRead, AsideIsClosed, OverlappingRunHangsNone, FreePlaceIsThere}
use Rattle.lt_forest.specs.LawsOfSides.{SideIsPart, HeldSideIsPart, SideAddsTheRow, SideIsClosed, SideLoosens, SideHasSameRows, SideDecides, SideShowsGranted, SideShowsHeld, SideShowsFree, SideShowsWho, SameOrderLays, TurnLaysAtAnchor, TurnLaysAtRow, SideIsLawful}
use Rattle.lt_seq.specs.Pairs.{IsLawful}
use Rattle.lt_forest.proofs.RowsAscend.{items_ascend}
use Rattle.lt_forest.proofs.Splits.{splits}
use Rattle.lt_forest.proofs.WidenedParts.{wider_part, wider_closed, wider_held, held_wider_closed, held_named}
use Rattle.lt_forest.proofs.HangsAside.{none_between, none_there}
use Rattle.lt_forest.proofs.Reached.{reached_exactly, closed_visited}
use Rattle.lt_forest.proofs.NamedInCuts.{hang_names, names_in}
use Rattle.lt_forest.proofs.SideParts.{side_part, side_held, adds_row, side_closed, side_looser, side_rows, side_decides as decided_beside, side_lawful}
use Rattle.lt_forest.proofs.SideDeeds.{side_ask, side_free, side_who}
use Rattle.lt_forest.proofs.SameOrder.{same_order, turned_at_anchor, turned_at_row}
use Rattle.lt_forest.proofs.GivenRows.{given_named, buffer_named, given_held, buffer_held}
use Rattle.lt_forest.proofs.MergedRuns.{may_merge, merged_run, put_in}
use Rattle.lt_forest.proofs.LeftOutRows.{none_left_out, one_kept, one_left_out, left_out_looser, left_out_freed}
use Rattle.lt_forest.proofs.GrantedRuns.{merged_granted}
use Rattle.std.specs.Prelude.{None}
use Rattle.lt_forest.proofs.FreePlaces.{run_none, place_free}
use Rattle.lt_forest.proofs.CountedRows.{merged_rows, put_in_rows, left_out_rows}

-- gaps_of_rows
pub rows_have_one_gap : RowsHaveOneGap
rows_have_one_gap trees rows c mode state f t q tree forest lt is some =
    row_gap forest t tree q lt is some

pub left_childs_gap : LeftChildsGap
left_childs_gap c link tree = gap_left c tree link

pub right_childs_gap : RightChildsGap
right_childs_gap c link tree = gap_right c tree link

pub seen_is_within : SeenIsWithin
seen_is_within c tree x y q g =
    (has_is c tree x y q g, λ k. is_has c tree x y q g k.0 k.1 k.2)

-- gaps_on_the_way
pub top_is_seen : TopIsSeen
top_is_seen trees rows c mode state f t r score forest = top_placed forest t r score

pub left_is_seen : LeftIsSeen
left_is_seen trees rows c mode state f t p r g score forest =
    left_placed forest t p r g score

pub right_is_seen : RightIsSeen
right_is_seen trees rows c mode state f t p r g score forest =
    right_placed forest t p r g score

-- order_of_trees
pub trees_are_ordered : TreesAreOrdered
trees_are_ordered trees rows c mode state f t tree forest sound lt is =
    in_order_tree forest sound t tree lt is

pub replaced_is_in_order : ReplacedIsInOrder
replaced_is_in_order = replaced_ordered

-- closed_parts
pub visit_leaves_out_none : VisitLeavesOutNone
visit_leaves_out_none trees rows c mode state f t top cut range p part in_gap visited h over =
    visited_all part range in_gap visited p h over

pub visited_is_closed : VisitedIsClosed
visited_is_closed trees rows c mode state f t top cut range part in_gap visited =
    visited_closed part range in_gap visited

pub closed_part_has_all : ClosedPartHasAll
closed_part_has_all trees rows c mode state f t top cut range p part closed h over =
    part_has_all part closed p h over

pub part_shows_pairs : PartShowsPairs
part_shows_pairs trees rows c mode state f t top cut p part h = part_has part p h

pub whole_part_shows_all : WholePartShowsAll
whole_part_shows_all trees rows c mode state f t cut part closed =
    whole_shows part closed

pub empty_tree_has_none : EmptyTreeHasNone
empty_tree_has_none trees rows c mode state f t forest lt tree_mode none =
    no_pairs forest t lt tree_mode none

-- part_is_replaced
pub part_is_replaced : PartIsReplaced
part_is_replaced trees rows b d mode state f t top cut new taken given part lays lawful inside =
    replaced part lays lawful inside

-- part_laid_for_a_deed
pub part_is_laid_for_deed : PartIsLaidForDeed
part_is_laid_for_deed trees rows b d mode mode' state f setting txn deed top cut new taken given part lays closed shows others =
    (event_relaid part lays closed shows others, deed_replies part lays closed shows others)

-- part_laid_again
pub part_is_laid_again : PartIsLaidAgain
part_is_laid_again trees rows b d mode mode' state f t top cut new part lays same modes =
    layout_relaid part lays same modes

-- top_rows
pub top_row_stays : TopRowStays
top_row_stays trees rows b d mode state f t h g cut new taken given part lays =
    top_not_given part lays

-- chains_of_buffers
pub chain_shows_buffer : ChainShowsBuffer
chain_shows_buffer trees rows c mode state f t owner count chain forest =
    chain_shows forest t owner count chain

pub front_is_granted : FrontIsGranted
front_is_granted c owner q chain = refl

-- buffers_grow
pub buffer_begins : BufferBegins
buffer_begins trees rows c d mode mode' state f setting t q txn range forest lt begins only others =
    (begun forest lt begins only others, begin_replies forest lt begins only others)

pub buffer_grows : BufferGrows
buffer_grows trees rows c d mode mode' state f setting t q txn count range forest lt appends only others =
    (appended forest lt appends only others, append_replies forest lt appends only others)

-- buffers_end
pub buffer_ends : BufferEnds
buffer_ends trees rows c d mode mode' state f setting txn owner count deed olds new taken given forest lt ends pool only others =
    (ended forest lt ends pool only others, end_replies forest lt ends pool only others)

pub buffer_is_dropped : BufferIsDropped
buffer_is_dropped trees rows c d mode mode' state f setting t owner count range first front last forest lt drops only others whole =
    (dropped forest lt drops only others setting range first whole, drop_replies forest lt drops only others setting range first whole)

-- owner_of_a_buffer
pub owner_is_alone : OwnerIsAlone
owner_is_alone trees rows b mode state f setting t txn owner count range forest sound lt was =
    (who_stays forest sound lt was setting txn range, who_replies forest sound lt was setting txn range)

-- rows_in_all
pub rows_add_up : RowsAddUp
rows_add_up trees rows c mode state f forest = all_rows forest

pub vacant_is_there : VacantIsThere
vacant_is_there trees rows c mode state f forest room = vacant_there forest room

pub opening_is_forest : OpeningIsForest
opening_is_forest trees rows c opening = opens opening

-- links_of_rows
pub links_name_further : LinksNameFurther
links_name_further trees rows c mode state f s forest = link_names forest s

pub none_is_named_twice : NoneIsNamedTwice
none_is_named_twice trees rows c mode state f s l r forest =
    links_apart forest s l r

pub none_leads_back : NoneLeadsBack
none_leads_back trees rows c mode state f t q forest = none_back forest t q

pub none_of_pool_leads_back : NoneOfPoolLeadsBack
none_of_pool_leads_back trees rows c mode state f q forest = pool_none_back forest q

pub pool_is_apart : PoolIsApart
pool_is_apart trees rows c mode state f t q g score forest =
    pool_apart forest t q g score

-- rows_with_links
pub gap_rows_are_linked : GapRowsAreLinked
gap_rows_are_linked trees rows c mode state f t q g score forest =
    placed_links forest t q g score

pub part_rows_are_linked : PartRowsAreLinked
part_rows_are_linked trees rows c mode state f t top cut q part = part_links part q

pub run_rows_are_linked : RunRowsAreLinked
run_rows_are_linked trees rows c mode state f t owner count last q run forest =
    run_links forest t owner count last q run

pub pool_rows_are_linked : PoolRowsAreLinked
pool_rows_are_linked trees rows c mode state f last q run forest =
    pool_links forest last q run

-- parts_in_key_order
pub ends_are_hanging : EndsAreHanging
ends_are_hanging = ends-hanging

pub ends_are_between : EndsAreBetween
ends_are_between = ends-items

pub same_order_keeps : SameOrderKeeps
same_order_keeps c d cut new rows hangs =
    (order_ends c d cut new rows hangs, order_rows c d cut new rows, order_pairs c d cut new rows)

-- plans_in_key_order
pub leaving_out_loosens : LeavingOutLoosens
leaving_out_loosens = sift_looser

pub merging_loosens : MergingLoosens
merging_loosens range ahead run behind one merge aside = merge_looser merge aside

pub part_widens : PartWidens
part_widens = widens

pub placed_shows : PlacedShows
placed_shows = laid_shows

-- steps_on_a_part
pub middle_decides : MiddleDecides
middle_decides = in_the_middle

pub own_become_one : OwnBecomeOne
own_become_one = granted-own

-- links_that_are_read
pub top_is_read : TopIsRead
top_is_read has v trees rows c mode state f t r score forest agrees =
    top_read forest agrees t r score

pub left_is_read : LeftIsRead
left_is_read has v trees rows c mode state f t p r g score forest agrees =
    left_read forest agrees t p r g score

pub right_is_read : RightIsRead
right_is_read has v trees rows c mode state f t p r g score forest agrees =
    right_read forest agrees t p r g score

pub read_links_name_further : ReadLinksNameFurther
read_links_name_further has v trees rows c mode state f s forest agrees =
    read_names forest agrees s

pub none_is_read_twice : NoneIsReadTwice
none_is_read_twice has v trees rows c mode state f s l r forest agrees =
    read_apart forest agrees s l r

pub none_is_read_back : NoneIsReadBack
none_is_read_back has v trees rows c mode state f t q forest agrees =
    read_back forest agrees t q

pub pool_is_read_apart : PoolIsReadApart
pool_is_read_apart has v trees rows c mode state f t q g score forest agrees =
    read_pool_apart forest agrees t q g score

pub vacant_is_read : VacantIsRead
vacant_is_read has v trees rows c mode state f forest agrees =
    read_vacant forest agrees

-- pairs_that_are_read
pub held_part_shows_pairs : HeldPartShowsPairs
held_part_shows_pairs has v trees rows c mode state f t top cut p forest sound lt tree_mode seen agrees part =
    read_has forest sound lt tree_mode seen agrees part p

pub held_part_has_all : HeldPartHasAll
held_part_has_all has v trees rows c mode state f t top cut range p forest sound lt tree_mode seen agrees part closed =
    read_has_all forest sound lt tree_mode seen agrees part range closed p

pub held_whole_shows_all : HeldWholeShowsAll
held_whole_shows_all has v trees rows c mode state f t cut forest sound lt tree_mode agrees part closed =
    read_whole forest sound lt tree_mode agrees part closed

pub held_chain_shows_buffer : HeldChainShowsBuffer
held_chain_shows_buffer has v trees rows c mode state f t owner count chain forest agrees =
    read_chain forest agrees t owner count chain

-- plans_for_trees
pub plan_serves_deed : PlanServesDeed
plan_serves_deed has planned v v' trees rows c d mode mode' state f setting txn score deed top cut new taken given forest sound lt seen full view
    plan closed shows modes = (
      view_relaid setting txn score deed forest sound lt seen full view plan closed shows modes,
      view_replies setting txn score deed forest sound lt seen full view plan closed shows modes,
    )

pub plan_serves_layout : PlanServesLayout
plan_serves_layout has planned v v' trees rows c d mode mode' state f t top cut new forest sound lt tree_mode seen view plan same modes own =
    view_settled forest sound lt tree_mode seen view plan same modes own

pub plan_serves_replacement : PlanServesReplacement
plan_serves_replacement has planned v v' trees rows c d mode state f t top cut new taken given forest sound lt tree_mode seen view plan lawful
    inside = view_replaced forest sound lt tree_mode seen view plan lawful inside

-- plans_for_buffers
pub plan_begins : PlanBegins
plan_begins has planned v v' trees rows c d mode mode' state f setting t q txn range forest lt view these begins others =
    (view_begun forest lt view these begins others, view_begin_replies forest lt view these begins others)

pub plan_appends : PlanAppends
plan_appends has planned v v' trees rows c d mode mode' state f setting t q txn count range forest lt view these appends others =
    (view_appended forest lt view these appends others, view_append_replies forest lt view these appends others)

pub plan_ends_buffer : PlanEndsBuffer
plan_ends_buffer has planned v v' trees rows c d mode mode' state f setting txn owner count deed olds new taken given forest lt view plan others =
    (view_ended forest lt view plan others, view_end_replies forest lt view plan others)

pub plan_drops_buffer : PlanDropsBuffer
plan_drops_buffer has planned v v' trees rows c d mode mode' state f setting t owner count range first front last forest lt view plan others whole = (
  view_dropped forest lt view plan others setting range first whole,
  view_drop_replies forest lt view plan others setting range first whole,
)

-- further_rows
pub tree_rows_are_further : TreeRowsAreFurther
tree_rows_are_further trees rows c mode state f t q forest =
    in_tree_further forest t q

pub pool_rows_are_further : PoolRowsAreFurther
pool_rows_are_further trees rows c mode state f q forest = in_pool_further forest q

pub run_rows_are_further : RunRowsAreFurther
run_rows_are_further trees rows c mode state f t owner count last q run forest =
    run_further forest t owner count last q run

pub taken_rows_are_further : TakenRowsAreFurther
taken_rows_are_further trees rows c mode state f last q run forest =
    taken_further forest last q run

pub part_rows_are_further : PartRowsAreFurther
part_rows_are_further trees rows c mode state f t top cut q part =
    part_further part q

-- further_rows_that_are_read
pub read_run_is_further : ReadRunIsFurther
read_run_is_further has v trees rows c mode state f t owner count last q run forest agrees =
    read_run_further forest agrees t owner count last q run

pub read_pool_is_further : ReadPoolIsFurther
read_pool_is_further has v trees rows c mode state f last q run forest agrees =
    read_pool_further forest agrees last q run

pub held_part_is_further : HeldPartIsFurther
held_part_is_further has v trees rows c mode state f t top cut q forest sound lt tree_mode seen agrees part =
    part_further (true_part agrees part forest sound lt tree_mode seen) q

-- rows_that_a_forest_reads
pub forest_reads_its_rows : ForestReadsItsRows
forest_reads_its_rows trees rows c d mode mode' state f forest = forest_same forest

-- anchors_of_other_trees
pub other_anchors_stay : OtherAnchorsStay
other_anchors_stay trees rows c d mode state f t top cut new taken given s part lays lt ne =
    anchors part.forest (moves part lays) s lt ne

pub plan_keeps_anchors : PlanKeepsAnchors
plan_keeps_anchors has planned v v' trees rows c d mode state f t top cut new taken given s forest sound lt tree_mode seen view plan =
    anchors_apart (true_part view.before plan.part forest sound lt tree_mode seen) view plan s

pub first_keeps_anchors : FirstKeepsAnchors
first_keeps_anchors has planned v v' trees rows c d mode state f t q txn range s forest view these puts =
    first_apart forest view these puts s

pub end_keeps_anchors : EndKeepsAnchors
end_keeps_anchors has planned v v' trees rows c d mode state f setting txn owner count deed t after olds new taken given s forest lt view plan =
    end_apart forest lt view plan s

pub drop_keeps_anchors : DropKeepsAnchors
drop_keeps_anchors has planned v v' trees rows c d mode state f t owner count after front last s forest lt view plan =
    drop_apart forest lt view plan s

-- gaps_of_a_new_part
pub part_gap_is_read : PartGapIsRead
part_gap_is_read has planned v v' c d top new q g view held =
    on_part_gap v' d top new q g (held_same (IsIn has) v' d (in_order (bare new)) view.after held)

pub top_keeps_gap : TopKeepsGap
top_keeps_gap = top_gap

-- rows_of_a_part
pub part_is_lawful : PartIsLawful
part_is_lawful trees rows c mode state f t top cut part = part_lawful part

pub held_part_is_lawful : HeldPartIsLawful
held_part_is_lawful has v trees rows c mode state f t top cut forest sound lt tree_mode seen agrees part =
    subst IsLawful (sym (true_pairs agrees part)) (part_lawful (true_part agrees part forest sound lt tree_mode seen))

pub lawful_part_ascends : LawfulPartAscends
lawful_part_ascends = items_ascend

pub lawful_list_splits : LawfulListSplits
lawful_list_splits range pairs lawful interval = splits range pairs lawful

-- widened_parts
pub widened_is_part : WidenedIsPart
widened_is_part trees rows c mode state f t top cut r before behind w part =
    wider_part part w

pub widened_is_closed : WidenedIsClosed
widened_is_closed trees rows c mode state f t top cut r before behind w range part =
    wider_closed part w range

pub held_widened_is_part : HeldWidenedIsPart
held_widened_is_part has v t top cut r before behind w part held =
    wider_held w part held

pub held_widened_is_closed : HeldWidenedIsClosed
held_widened_is_closed has v trees rows c mode state f t top cut r before behind w range forest sound lt tree_mode seen agrees part held =
    held_wider_closed forest sound lt tree_mode seen agrees part w held range

-- hangs_of_closed_parts
pub none_hangs_between : NoneHangsBetween
none_hangs_between c top cut range ahead p l q behind lawful closed =
    none_between c cut range ahead p l q behind lawful closed.aside

pub none_hangs_there : NoneHangsThere
none_hangs_there c top cut range ahead l behind interval closed =
    none_there c cut range ahead l behind interval closed.aside

pub reached_are_not_aside : ReachedAreNotAside
reached_are_not_aside = reached_exactly

pub closed_is_visited : ClosedIsVisited
closed_is_visited c top cut range closed = closed_visited c cut range closed.aside

pub aside_is_closed : AsideIsClosed
aside_is_closed c top cut range in_gap aside = record { in_gap = in_gap; aside = subst (AllAside range) (sym (ends-hanging c cut None None)) aside }

pub overlapping_run_hangs_none : OverlappingRunHangsNone
overlapping_run_hangs_none c top cut range ahead r run behind lawful closed = run_none c cut range ahead r run behind lawful closed.aside

pub free_place_is_there : FreePlaceIsThere
free_place_is_there c top cut range ahead behind interval closed = place_free c cut range ahead behind interval closed.aside

-- rows_that_are_named
pub hangs_name_others : HangsNameOthers
hangs_name_others trees rows c mode state f t top cut r part = hang_names part r

pub held_hangs_name_others : HeldHangsNameOthers
held_hangs_name_others has v trees rows c mode state f t top cut r forest sound lt tree_mode seen agrees part =
    hang_names (true_part agrees part forest sound lt tree_mode seen) r

pub cut_rows_are_named : CutRowsAreNamed
cut_rows_are_named = names_in

pub held_rows_are_named : HeldRowsAreNamed
held_rows_are_named has v t top cut q part some = held_named part q some

-- trees_and_pools_that_are_read
pub gap_rows_tree_mode : GapRowsTreeMode
gap_rows_tree_mode trees rows c mode state f t q g forest = placed_tree forest t q g

pub none_of_pool_is_read_back : NoneOfPoolIsReadBack
none_of_pool_is_read_back has v trees rows c mode state f q forest agrees =
    read_pool_back forest agrees q

pub empty_tree_is_read : EmptyTreeIsRead
empty_tree_is_read has v trees rows c mode state f t forest agrees =
    read_empty forest agrees t

-- parts_beside_a_row
pub side_is_part : SideIsPart
side_is_part trees rows c mode state f t s g part = side_part s g part

pub held_side_is_part : HeldSideIsPart
held_side_is_part has v t s g part = side_held s g part

pub side_adds_the_row : SideAddsTheRow
side_adds_the_row = adds_row

pub side_is_closed : SideIsClosed
side_is_closed = side_closed

pub side_loosens : SideLoosens
side_loosens = side_looser

pub side_has_same_rows : SideHasSameRows
side_has_same_rows = side_rows

pub side_is_lawful : SideIsLawful
side_is_lawful = side_lawful

-- deeds_beside_a_row
pub side_decides : SideDecides
side_decides = decided_beside

pub side_shows_granted : SideShowsGranted
side_shows_granted setting txn tree score range c d s part new lawful interval on none pairs same =
    side_ask setting txn tree score range c d s part new lawful interval on same [] none pairs

pub side_shows_held : SideShowsHeld
side_shows_held setting txn tree score range c d s part new o os lawful interval on owners pairs same =
    side_ask setting txn tree score range c d s part new lawful interval on same (o ∷ os) owners pairs

pub side_shows_free : SideShowsFree
side_shows_free setting txn tree score range first c d s part new lawful interval on pairs same =
    side_free setting txn tree score range c d s part new lawful interval on same first pairs

pub side_shows_who : SideShowsWho
side_shows_who setting txn tree score named range c d s part new lawful interval on pairs same =
    side_who setting txn tree score range c d s part new lawful interval on same named pairs

-- plans_for_layouts
pub same_order_lays : SameOrderLays
same_order_lays has planned trees t top v v' cut new = same_order

pub turn_lays_at_anchor : TurnLaysAtAnchor
turn_lays_at_anchor has planned trees t v v' old new old_link new_link turn held all holds holds' same is is' =
    turned_at_anchor v v' turn holds holds' same held all is is'

pub turn_lays_at_row : TurnLaysAtRow
turn_lays_at_row has planned trees t s g v v' old new old_link new_link turn held all holds holds' same is is' =
    turned_at_row v v' turn holds holds' same s g held all is is'

-- rows_that_are_given
pub given_are_named_within : GivenAreNamedWithin
given_are_named_within trees rows c d mode state f t top cut new taken given q l part lays =
    given_named part lays q l

pub chain_is_named_within : ChainIsNamedWithin
chain_is_named_within trees rows c mode state f t owner count olds q l forest lt was leads =
    buffer_named forest t owner count olds lt was leads q l

pub given_are_named_by_held : GivenAreNamedByHeld
given_are_named_by_held has planned v v' trees rows c d mode state f t top cut new taken given q l forest sound lt tree_mode seen view plan =
    given_held forest sound lt tree_mode seen view plan q l

pub chain_is_named_by_held : ChainIsNamedByHeld
chain_is_named_by_held has v trees rows c mode state f t owner count olds q l forest agrees all lt was shows =
    buffer_held forest agrees t owner count olds all lt was shows q l

-- runs_that_become_one
pub span_may_merge : SpanMayMerge
span_may_merge = may_merge

pub merged_run_loosens : MergedRunLoosens
merged_run_loosens c d top cut new range ahead r run behind one ls ms closed =
    merged_run c d cut new range ahead r run behind one ls ms closed.aside

pub put_in_loosens : PutInLoosens
put_in_loosens c d top cut new range ahead behind one ls ms closed =
    put_in c d cut new range ahead behind one ls ms closed.aside

pub rows_show_pairs : RowsShowPairs
rows_show_pairs c cut = pairs_of c (in_order (bare cut))

pub merged_run_is_granted : MergedRunIsGranted
merged_run_is_granted = merged_granted

pub merged_run_keeps_rows : MergedRunKeepsRows
merged_run_keeps_rows = merged_rows

pub put_in_keeps_rows : PutInKeepsRows
put_in_keeps_rows = put_in_rows

-- rows_that_are_left_out
pub none_is_left_out : NoneIsLeftOut
none_is_left_out = none_left_out

pub one_is_kept : OneIsKept
one_is_kept = one_kept

pub one_is_left_out : OneIsLeftOut
one_is_left_out = one_left_out

pub left_out_loosens : LeftOutLoosens
left_out_loosens = left_out_looser

pub left_out_is_freed : LeftOutIsFreed
left_out_is_freed = left_out_freed

pub left_out_keeps_rows : LeftOutKeepsRows
left_out_keeps_rows = left_out_rows
