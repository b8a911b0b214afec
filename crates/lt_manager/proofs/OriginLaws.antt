-- Which passes and notes are of a table.
use Rattle.std.proofs.Common.{◌≡◌, ap}
use Rattle.atomic_table.specs.Seated.{TableId}
use Rattle.lt_rows.specs.Plan.{setting_of, with_marks}
use Rattle.lt_seq.specs.Yard.{Origin}
use Rattle.lt_locktree.specs.declared.locktree.Locktree.{Locktree}
use Rattle.lt_locktree.specs.Calls.{IsOfTable}
use Rattle.lt_manager.specs.Views.{Kept, Noted, identity_of, origin_at, note_origin, IsPassOfTable, IsNoteOfTable}

-- the identity tells the table
same_table : (a b : TableId) → identity_of a ≡ identity_of b → a ≡ b
same_table a b is = λ i. record {
  words = words i;
  slots = slots i;
  views_name = views_name i;
  atom = atom i;
  block = block i;
  offset = offset i;
  slot_names = slot_names i;
}
  where
    words : a.words ≡ b.words
    words = cc

    slots : a.slots ≡ b.slots
    slots = cc

    views_name : a.views_name ≡ b.views_name
    views_name = cc

    atom : a.atom ≡ b.atom
    atom = cc

    block : a.block ≡ b.block
    block = cc

    offset : a.offset ≡ b.offset
    offset = cc

    slot_names : a.slot_names ≡ b.slot_names
    slot_names = cc

module _ (t : Locktree) where
  pub of_table : (k : Kept) → IsPassOfTable t k → IsOfTable t k.pass
  of_table k is = (
    same_table k.pass.pass.place.table_id t.rows.table.shared.table_id (ap (λ (o : Origin). o.identity) is),
    ap (λ (o : Origin). with_marks o.setting.plan o.setting.marks) is,
  )

  pub pass_of : (k : Kept) → IsOfTable t k.pass → IsPassOfTable t k
  pass_of k is = λ i. record { identity = identity_of (is.0 i); setting = setting_of (is.1 i) }

  pub of_its_table : (n : Noted) → note_origin n ≡ origin_at t → IsNoteOfTable t n
  of_its_table n is = (
    same_table n.note.place.table_id t.rows.table.shared.table_id (ap (λ (o : Origin). o.identity) is),
    ap (λ (o : Origin). with_marks o.setting.plan o.setting.marks) is,
  )

  pub note_of : (n : Noted) → IsNoteOfTable t n → note_origin n ≡ origin_at t
  note_of n is = λ i. record { identity = identity_of (is.0 i); setting = setting_of (is.1 i) }
