-- What each deed that ends a buffer makes of its state.
use Rattle.std.proofs.Common.{◌≡◌, ◌≢◌, ℕ, ◌+◌, Bool, false, List, length, ap, ne_eqb}
use Rattle.std.specs.Prelude.{if◌then◌else◌}
use Rattle.lt_ranges.specs.Interval.{Interval}
use Rattle.lt_seq.specs.declared.event.Mode.TheVariants.{Tree as TreeMode, Buffer}
use Rattle.lt_seq.specs.declared.event.Pair.{Pair}
use Rattle.lt_seq.specs.declared.event.Reply.TheVariants.{Buffered}
use Rattle.lt_seq.specs.Pairs.{others, granted, freed, count_freed}
use Rattle.lt_seq.specs.Table.{TreeState, fresh, is_buffered, pairs_by, reply_by, ask_reply, after_ask}
use Rattle.lt_seq.specs.Table.{drops_all, raised, free_count, after_free, mode_asked}

module _ (owner count txn : ℕ) (asked : Interval) (ps : List Pair) where
  abbrev pub state : TreeState
  state = record { pairs = ps; mode = Buffer owner count }

  -- an ask that it doesn't take
  pub asked_state : (buffer : ℕ) → is_buffered buffer txn ps (Buffer owner count) ≡ false
      → after_ask buffer txn asked state ≡ record { pairs = pairs_by (others txn asked ps) txn asked ps; mode = TreeMode 0 }
  asked_state buffer full =
      ap (λ (b : Bool). if b then record { pairs = granted txn asked ps; mode = Buffer txn (count + 1) }
      else record { pairs = pairs_by (others txn asked ps) txn asked ps; mode = TreeMode 0 }) full

  pub asked_reply : (buffer : ℕ) → is_buffered buffer txn ps (Buffer owner count) ≡ false
      → ask_reply buffer txn asked state ≡ reply_by (others txn asked ps)
  asked_reply buffer full = ap (λ (b : Bool). if b then Buffered else reply_by (others txn asked ps)) full

  -- a free that doesn't drop it
  pub freed_state : (first : Bool) → drops_all txn asked (Buffer owner count) ≡ false
      → after_free txn asked first state ≡ record { pairs = freed txn asked ps; mode = raised first (TreeMode 0) }
  freed_state first part =
      ap (λ (b : Bool). if b then fresh else record { pairs = freed txn asked ps; mode = raised first (TreeMode 0) }) part

  pub freed_number : drops_all txn asked (Buffer owner count) ≡ false → free_count txn asked state ≡ count_freed txn asked ps
  freed_number part = ap (λ (b : Bool). if b then length ps else count_freed txn asked ps) part

-- a question as another
pub mode_for_other : (owner count named : ℕ) → owner ≢ named → mode_asked named (Buffer owner count) ≡ TreeMode 0
mode_for_other owner count named other = ap (λ (b : Bool). if b then Buffer owner count else TreeMode 0) (ne_eqb owner named other)
