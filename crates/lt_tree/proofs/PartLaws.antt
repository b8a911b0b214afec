-- What a search holds, as a commit asks for it.
use Rattle.std.proofs.Common.{refl}
use Rattle.lt_tree.specs.LawsOfParts.{LockedIsPart, LockedIsClosed, LockedAnchorIsTop}
use Rattle.lt_tree.proofs.WideningLaws.{holds_part}
use Rattle.lt_tree.proofs.ReleaseLaws.{anchor_top}
use Rattle.lt_tree.proofs.ClosingLaws.{locked_closed}

pub locked_is_part : LockedIsPart
locked_is_part v tree asked here rows hangs more l lt = (l.knows, holds_part v tree asked here rows hangs l lt)

pub locked_is_closed : LockedIsClosed
locked_is_closed v tree asked here rows hangs more l closed = locked_closed v tree asked here rows hangs more l closed

pub locked_anchor_is_top : LockedAnchorIsTop
locked_anchor_is_top v tree asked rows hangs more l lt = anchor_top v tree asked tree rows hangs l lt refl
