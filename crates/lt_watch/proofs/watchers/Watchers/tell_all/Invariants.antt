use Rattle.std.proofs.Common.{◌≡◌, map, take}
use Rattle.std.specs.List.{count_by}
use Rattle.lt_watch.specs.Tellings.{log_of, is_full}
use Rattle.lt_watch.proofs.TellingLaws.{told_below}
use Rattle.lt_watch.proofs.watchers.Watchers.tell_all.Given as goal

abbrev pub invariant-loop-watch : goal.invariant-loop-watch
invariant-loop-watch g l =
    (map (λ w. log_of ((goal.Watch-dyn g (w.vtable, w.value)).capacity w.value) ((goal.Watch-dyn g (w.vtable, w.value)).told w.value)) l.watch-items
    ≡ told_below l.note l.watch-index
    (map (λ w. log_of ((goal.Watch-dyn g (w.vtable, w.value)).capacity w.value) ((goal.Watch-dyn g (w.vtable, w.value)).told w.value)) l.fn.self.list.items))
    × (l.full ≡ count_by (is_full l.note) (take l.watch-index
    (map (λ w. log_of ((goal.Watch-dyn g (w.vtable, w.value)).capacity w.value) ((goal.Watch-dyn g (w.vtable, w.value)).told w.value)) l.fn.self.list.items)))
