-- Events that a search ends with, as deeds of the asking.
use Rattle.std.proofs.Common.{◌≡◌, ℕ, List, [], sym, ap, ◌∙◌, subst}
use Rattle.lt_seq.specs.declared.event.Deed.{Deed}
use Rattle.lt_seq.specs.declared.event.Deed.TheVariants.{Ask, Who}
use Rattle.lt_seq.specs.declared.event.Reply.{Reply}
use Rattle.lt_seq.specs.declared.event.Reply.TheVariants.{HeldBy}
use Rattle.lt_rows.specs.declared.image.RowImage.{RowImage}
use Rattle.lt_rows.specs.declared.view.View.{View}
use Rattle.lt_tree.proofs.ViewLaws.{rows_same}
use Rattle.lt_locktree.specs.declared.asking.Asking.{Asking}
use Rattle.lt_locktree.specs.Deeds.{MakesDeed, asked_event}
use Rattle.lt_locktree.specs.Makes.{Makes}

-- with another name for what was replied
pub deed_is : (v w : View) (a : Asking) (deed old : Deed) (place : ℕ) → deed ≡ old → MakesDeed v w a old place → MakesDeed v w a deed place
deed_is v w a deed old place is made = subst (λ (d : Deed). MakesDeed v w a d place) (sym is) made

-- nothing was taken besides
pub deed_of : (v w : View) (a : Asking) (deed : Deed) (plan : List RowImage) (place : ℕ) → Makes v w plan (asked_event a deed) place → MakesDeed v w a deed place
deed_of v w a deed plan place made = (v, plan, rows_same v, made)

pub held_made : (v w : View) (a : Asking) (owners copy : List ℕ) (reply : Reply) (place : ℕ) → Makes v w [] (asked_event a (Ask a.tree a.range (HeldBy owners))) place
    → reply ≡ HeldBy owners → copy ≡ owners → MakesDeed v w a (Ask a.tree a.range reply) place × (HeldBy copy ≡ reply)
held_made v w a owners copy reply place made is same = (
  deed_is v w a (Ask a.tree a.range reply) (Ask a.tree a.range (HeldBy owners)) place (ap (Ask a.tree a.range) is)
      (deed_of v w a (Ask a.tree a.range (HeldBy owners)) [] place made),
  ap HeldBy same ∙ sym is,
)

pub who_made : (v w : View) (a : Asking) (named : ℕ) (owners copy told : List ℕ) (place : ℕ) → Makes v w [] (asked_event a (Who a.tree a.range named owners)) place
    → told ≡ owners → copy ≡ owners → MakesDeed v w a (Who a.tree a.range named told) place × (copy ≡ told)
who_made v w a named owners copy told place made is same = (
  deed_is v w a (Who a.tree a.range named told) (Who a.tree a.range named owners) place (ap (Who a.tree a.range named) is)
      (deed_of v w a (Who a.tree a.range named owners) [] place made),
  same ∙ sym is,
)
