use Rattle.lt_live.proofs.LiveLaws.{served_from, served_hears}
use Rattle.lt_live.proofs.WorkerLaws.{was_true}
use Rattle.lt_live.proofs.worker.serve.Goals as goal

pub returns : goal.returns
returns g c =
    let setting = g.Y.Yard.setting c.args.yard.now in
    let lines = c.args.lines.now in
    record {
      of = c.go_home.ensures.of;
      fit = c.go_home.ensures.fit;
      queue = c.serve_all-served.ensures.queue;
      none = c.go_home.ensures.none;
      serves = λ stays. served_hears setting lines _ _ _ _ (served_from setting lines _ _ _ _ c.come_in.ensures.hears
          (c.serve_all-served.ensures.serves (was_true _ stays))) c.go_home.ensures.hears;
      taken = λ stays. c.serve_all-served.ensures.taken (was_true _ stays);
    }
