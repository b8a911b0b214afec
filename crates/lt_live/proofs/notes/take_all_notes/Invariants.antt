use Rattle.std.proofs.Common.{◌≡◌, take}
use Rattle.std.specs.List.{flat_map}
use Rattle.lt_seq.specs.Yard.{origin_of}
use Rattle.lt_live.specs.Ends.{IsEmptied}
use Rattle.lt_crew.specs.Workers.{UpTo}
use Rattle.lt_live.proofs.notes.take_all_notes.Given as goal

abbrev pub invariant-loop-pass : goal.invariant-loop-pass
invariant-loop-pass g l =
    let view = g.Y.Pass.Pass.view in
    let place = origin_of (g.Y.Yard.identity l.yard) (g.Y.Yard.setting l.yard) in
    record {
      passes : UpTo (IsEmptied g.Y.Pass.Pass.origin view place) l.pass-index l.fn.passes l.passes;
      all : l.notes.items ≡ flat_map (λ p. (view p).notes) (take l.pass-index l.fn.passes);
    }
