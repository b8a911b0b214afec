use Rattle.std.proofs.Common.{◌≡◌, length}
use Rattle.lt_seq.specs.Yard.{origin_of}
use Rattle.lt_store.specs.Standing.{IsStanding}
use Rattle.lt_store.proofs.ending.end_all.Given as goal

-- each that is undone leaves a store without it
abbrev pub invariant-loop-book : goal.invariant-loop-book
invariant-loop-book g l = record {
  standing : IsStanding (g.Y.Pass.Pass.origin l.pass) (origin_of (g.Y.Yard.identity l.yard) (g.Y.Yard.setting l.yard))
      (g.Y.Yard.setting l.yard) (g.Y.Pass.Pass.view l.pass) l.book l._steps;
  commits : l.book.commits ≡ l.fn.book.commits;
}

abbrev pub decreases-loop-book : goal.decreases-loop-book
decreases-loop-book g l = length l.book.live
