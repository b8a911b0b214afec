-- A free in a tree with a buffer: the whole of it is dropped, or it ends.
use Rattle.std.proofs.Common.{◌≡◌, ◌≢◌, ◌⊎◌, inl, inr, ℕ, Bool, true, false, ◌&&◌, ◌==◌, List, [], length, refl, sym, ap, ◌∙◌}
use Rattle.std.proofs.Common.{subst, ne_eqb}
use Rattle.lt_ranges.specs.Interval.{Interval, IsInterval}
use Rattle.lt_seq.specs.declared.event.Event.{Event}
use Rattle.lt_seq.specs.declared.event.Deed.TheVariants.{Free}
use Rattle.lt_seq.specs.declared.event.Mode.TheVariants.{Buffer}
use Rattle.lt_seq.specs.declared.event.Pair.{Pair}
use Rattle.lt_seq.specs.Table.{is_whole, drops_all}
use Rattle.lt_forest.specs.Forest.{folded}
use Rattle.lt_rows.specs.declared.view.View.{View}
use Rattle.lt_rows.specs.Views.{images}
use Rattle.lt_rows.specs.Lawful.{shown}
use Rattle.lt_chain.specs.Chains.{FreesAll}
use Rattle.lt_chain.proofs.ReadLaws.{owned}
use Rattle.lt_locktree.specs.declared.asking.Asking.{Asking}
use Rattle.lt_locktree.specs.Deeds.{asked_event}
use Rattle.lt_locktree.specs.Endings.{buffered_pairs}
use Rattle.lt_locktree.specs.TakenBuffers.{ShowsBufferOf}

-- a free of the whole buffer by its transaction, with the number of its pairs
pub frees_whole : (v : View) (pass : ℕ) (a : Asking) (first : Bool) (n : ℕ) (rows olds : List ℕ) (pairs : List Pair) (e : Event)
    → a.pass ≡ pass → ShowsBufferOf v a.tree a.txn → pairs ≡ buffered_pairs v a.txn rows → n ≡ length pairs → olds ≡ rows
    → is_whole a.range ≡ true → IsInterval a.range → e ≡ asked_event a (Free a.tree a.range first n) → FreesAll pass a.tree v olds e
frees_whole v pass a first n rows olds pairs e own buffer are n_is same whole interval is =
    let owner : a.txn ≡ (shown v [] a.tree).owner = sym (owned (images v a.tree) a.txn buffer.0 buffer.1) in
    let count : n ≡ length (folded (shown v [] a.tree).owner (shown v []) olds) =
    n_is ∙ ap length (are ∙ (λ j. folded (owner j) (shown v []) (sym same j))) in
    subst (λ (x : Event). FreesAll pass a.tree v olds x) (sym is) record {
      range = a.range;
      first = first;
      pass_is = own;
      owner = owner;
      question = interval;
      whole = whole;
      deed = ap (λ (k : ℕ). Free a.tree a.range first k) count;
    }

and_false : (b : Bool) → (b && false) ≡ false
and_false true = refl
and_false false = refl

-- any other free doesn't drop the buffer
pub drops_part : (owner txn count : ℕ) (asked : Interval) → (owner ≢ txn) ⊎ (is_whole asked ≡ false)
    → drops_all txn asked (Buffer owner count) ≡ false
drops_part owner txn count asked (inl other) = ap (λ (b : Bool). b && is_whole asked) (ne_eqb owner txn other)
drops_part owner txn count asked (inr part) = ap (λ (b : Bool). (owner == txn) && b) part ∙ and_false (owner == txn)
