-- The receipts that a pass keeps.
use Rattle.std.proofs.Common.{◌≡◌, ℕ, ◌+◌, ◌-◌, List, [], ◌∷◌, ◌++◌, ap, ◌∙◌, arith}
use Rattle.lt_seq.specs.declared.event.Deed.{Deed}
use Rattle.lt_seq.specs.declared.event.Receipt.{Receipt}
use Rattle.lt_rows.specs.declared.view.View.{View}
use Rattle.lt_locktree.specs.Calls.{event_of}

module _ (v : View) (number place txn : ℕ) (deed : Deed) (r : Receipt) (mark : number + 1 ≡ v.mark)
    (is : r ≡ record { place = place; event = record { pass = number; txn = txn; deed = deed } }) where
  pub receipt_is : r ≡ record { place = place; event = event_of v txn deed }
  receipt_is =
      let pass : number ≡ v.mark - 1 = omega (arith, mark) in
      is ∙ ap (λ n. record { place = place; event = record { pass = n; txn = txn; deed = deed } }) pass

  -- and it stands behind those that were kept before
  pub receipt_kept : (mine reserved before : List Receipt) → mine ≡ reserved ++ r ∷ [] → reserved ≡ before
      → mine ≡ before ++ record { place = place; event = event_of v txn deed } ∷ []
  receipt_kept mine reserved before pushed same = pushed ∙ λ i. same i ++ receipt_is i ∷ []
