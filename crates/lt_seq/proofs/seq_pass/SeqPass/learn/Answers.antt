use Rattle.std.proofs.Common.{◌+◌, ap, subst}
use Rattle.lt_seq.specs.SeqPass.{plain, alone_view}
use Rattle.lt_seq.specs.Yard.{Learns}
use Rattle.lt_seq.proofs.SeqLaws.{sound_of}
use Rattle.lt_seq.proofs.YardLaws.{learns_none}
use Rattle.lt_seq.proofs.seq_pass.SeqPass.learn.Goals as goal

pub returns-clause-learns : goal.returns-clause-learns
returns-clause-learns c =
    let inside = c.self.inside in
    subst (λ p. Learns (plain p.plan) p.view c.args.note.view (alone_view inside.number (inside.rights + c.rights.result) inside.mine.items inside.notes.items)) c.self.view_is
    (learns_none (plain inside.plan) (alone_view inside.number inside.rights inside.mine.items inside.notes.items) c.args.note.view _ (sound_of _ _ _ _ _ _ c.self.invariant) c.rights.ensures.front
    (ap (λ n. alone_view inside.number (inside.rights + n) inside.mine.items inside.notes.items) c.rights.ensures.rights))
