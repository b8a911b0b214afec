use Rattle.std.proofs.Common.{◌≡◌, ◌≢◌, ◌<◌, ◌≤◌, length, get_or, nat_lt, sym, ap, subst, ◌∙◌, arith, rules, List}
use Rattle.std.specs.List.{insert}
use Rattle.std.specs.List.Sorted.{IsPartitionedBy}
use Rattle.std.proofs.lemmas.List.{get_or_default}
use Rattle.std.proofs.lemmas.List.Sorted.{IsPartitionPoint-from_clause}
use Rattle.lt_store.specs.Book.{Acts}
use Rattle.lt_store.specs.Acting.{HasBegun, fresh}
use Rattle.lt_store.proofs.BeginLaws.{parted, IsPlaced, stands, begins_at}
use Rattle.lt_store.proofs.beginning.begin.Goals as goal
use Rattle.lt_store.proofs.beginning.begin.Goals.{else-place-len-via-then-place-len+else-txn, else-place-len-via-else-place-len}

pub returns-then-txn : goal.returns-then-txn
returns-then-txn c =
    let items = c.args.live.now.items in
    let place = c.partition_point-place.result in
    let rises = subst (λ (l : List Acts). IsPartitionedBy (λ a. nat_lt a.txn c.args.txn) l) (sym c.deref.ensures.value) (parted items c.args.txn c.requires) in
    let point = IsPartitionPoint-from_clause (λ (a : Acts). nat_lt a.txn c.args.txn) c.deref.result.now place c.partition_point-place.ensures.partitioned rises (λ a r q k. search rules) in
    let at = subst (λ (l : List Acts). IsPlaced l c.args.txn place) c.deref.ensures.value point in
    let within : place < length items = omega arith in
    stands items c.args.txn place c.requires at within
    (λ d. ap (λ (a : Acts). a.txn) (get_or_default items place d c.index.result.now within ∙ sym c.index.ensures) ∙ sym c.txn.ensures ∙ c.if-txn.true)

pub returns : goal.returns
returns c =
    let items = c.args.live.now.items in
    let place = c.partition_point-place.result in
    let rises = subst (λ (l : List Acts). IsPartitionedBy (λ a. nat_lt a.txn c.args.txn) l) (sym c.deref.ensures.value) (parted items c.args.txn c.requires) in
    let point = IsPartitionPoint-from_clause (λ (a : Acts). nat_lt a.txn c.args.txn) c.deref.result.now place c.partition_point-place.ensures.partitioned rises (λ a r q k. search rules) in
    let at = subst (λ (l : List Acts). IsPlaced l c.args.txn place) c.deref.ensures.value point in
    let within : place ≤ length items = omega (arith, c.partition_point-place.ensures.bound, ap (λ (l : List Acts). length l) c.deref.ensures.value) in
    let other : place < length items → (d : Acts) → (get_or items place d).txn ≢ c.args.txn =
    elim c.else-place-len.branch [
      | else-place-len-via-then-place-len+else-txn w ↦
          (λ lt d same. w.if-txn.false (w.txn.ensures ∙ ap (λ (a : Acts). a.txn) (w.index.ensures ∙ get_or_default items place w.index.result.now d lt) ∙ same))
      | else-place-len-via-else-place-len w ↦ (λ lt d same. omega (arith, lt, c.len.ensures, w.if-place-len.false))
    ] in
    subst (λ (l : List Acts). HasBegun items l c.args.txn place) (sym (c.in_ok-insert.ensures.items ∙ ap (λ (a : Acts). insert items place a) c.new.ensures))
    (begins_at items c.args.txn place c.requires at within other)
