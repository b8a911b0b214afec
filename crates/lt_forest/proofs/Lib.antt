-- keys and lists
pub mod BoundLaws
pub mod PairLists
-- one tree
pub mod TreeLaws
pub mod LawfulTrees
pub mod SameRows
-- cuts and hangs
pub mod EndLaws
pub mod HangLaws
pub mod Growing
pub mod TreeParts
pub mod RowsAscend
pub mod HangsAside
pub mod FreePlaces
pub mod Reached
-- deeds
pub mod Changes
pub mod PairChanges
pub mod DeedChanges
pub mod MiddleSteps
pub mod Splits
-- forests
pub mod Chains
pub mod ForestLaws
pub mod PartLaws
pub mod FurtherRows
pub mod GapLaws
pub mod NamedOnce
pub mod NoWayBack
pub mod NamedInCuts
pub mod StateLaws
pub mod Openings
pub mod VisitLaws
pub mod PlanLaws
pub mod EventLaws
pub mod BufferLaws
-- views
pub mod PlansInView
pub mod BuffersInView
pub mod ReadOffRows
pub mod WidenedParts
pub mod GivenRows
-- laws for plans
pub mod RowsAndHangs
pub mod RunLaws
pub mod MergedRuns
pub mod GrantedRuns
pub mod LeftOutRows
pub mod CountedRows
pub mod WidenLaws
pub mod LayoutLaws
pub mod RotationLaws
pub mod SideParts
pub mod SideDeeds
pub mod SameOrder
pub mod PartGaps
-- each public law by its name
pub mod PublicLaws
-- worked
pub mod WorkedTrees
pub mod WorkedFirstFree
pub mod WorkedBuffer
