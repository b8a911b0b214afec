-- Sharing, learning and the events of a pass that has all the rights keep a table's rights and fronts.
use Rattle.std.proofs.Common.{◌≡◌, ◌⊎◌, ℕ, zero, suc, ◌+◌, ◌-◌, ◌≤◌, List, [], ◌∷◌, ◌++◌, length, sum_by, refl, sym, ap, subst, ◌∙◌, arith, inl, inr, length-append}
use Rattle.std.specs.List.{All, Any, Contains}
use Rattle.std.proofs.lemmas.List.{append-nil}
use Rattle.std.proofs.lemmas.List.Elements.{All-cons, All-head, All-tail, All-weaker}
use Rattle.std.proofs.lemmas.List.Sums.{sum_by-append, sum_by-cons}
use Rattle.lt_seq.specs.declared.event.Deed.{Deed}
use Rattle.lt_seq.specs.declared.event.Event.{Event}
use Rattle.lt_seq.specs.declared.event.Receipt.{Receipt}
use Rattle.lt_seq.specs.Table.{Setting}
use Rattle.lt_seq.specs.History.{IsFront}
use Rattle.lt_seq.specs.Yard.{PassView, NoteView, HasAll, Shares, Learns, IsLonger, OneMore}
use Rattle.lt_seq.specs.Passes.{PassSeesAll, NoteSeesAll, RightsAndFronts}
use Rattle.lt_seq.proofs.YardLaws.{front_then}
use Rattle.lt_seq.proofs.PassesLaws.{all_has_whole}

-- An element in the midst of a list, and another in its place.

module _ {X : Type 0} (P : X → Type 0) where
  all_at : (before : List X) (x : X) (behind : List X) → All P (before ++ x ∷ behind) → P x
  all_at [] x behind all = All-head P x behind all
  all_at (y ∷ ys) x behind all = all_at ys x behind (All-tail P y (ys ++ x ∷ behind) all)

  all_middle : (before : List X) (x y : X) (behind : List X) → P y → All P (before ++ x ∷ behind) → All P (before ++ y ∷ behind)
  all_middle [] x y behind holds all = All-cons P y behind holds (All-tail P x behind all)
  all_middle (z ∷ zs) x y behind holds all =
      All-cons P z (zs ++ y ∷ behind) (All-head P z (zs ++ x ∷ behind) all) (all_middle zs x y behind holds (All-tail P z (zs ++ x ∷ behind) all))

  all_without : (before : List X) (x : X) (behind : List X) → All P (before ++ x ∷ behind) → All P (before ++ behind)
  all_without [] x behind all = All-tail P x behind all
  all_without (z ∷ zs) x behind all =
      All-cons P z (zs ++ behind) (All-head P z (zs ++ x ∷ behind) all) (all_without zs x behind (All-tail P z (zs ++ x ∷ behind) all))

  any_more : (z : X) (xs : List X) → Any P xs → Any P (z ∷ xs)
  any_more z xs (k, x, inside, is, holds) = (suc k, x, omega (arith, inside), is, holds)

  any_here : (before : List X) (x : X) (behind : List X) → P x → Any P (before ++ x ∷ behind)
  any_here [] x behind holds = (0, x, omega arith, refl, holds)
  any_here (z ∷ zs) x behind holds = any_more z (zs ++ x ∷ behind) (any_here zs x behind holds)

  -- it is the one of which it holds, or it holds of one that stays
  any_middle : (before : List X) (x y : X) (behind : List X) → Any P (before ++ x ∷ behind) → P x ⊎ Any P (before ++ y ∷ behind)
  any_middle [] x y behind (zero, z, inside, is, holds) = inl (subst P (sym is) holds)
  any_middle [] x y behind (suc k, z, inside, is, holds) = inr (suc k, z, omega (arith, inside), is, holds)
  any_middle (w ∷ ws) x y behind (zero, z, inside, is, holds) = inr (0, z, omega arith, is, holds)
  any_middle (w ∷ ws) x y behind (suc k, z, inside, is, holds) = on (any_middle ws x y behind (k, z, omega (arith, inside), is, holds))
    where
      on : P x ⊎ Any P (ws ++ y ∷ behind) → P x ⊎ Any P (w ∷ (ws ++ y ∷ behind))
      on (inl here) = inl here
      on (inr there) = inr (any_more w (ws ++ y ∷ behind) there)

  any_without : (before : List X) (x : X) (behind : List X) → Any P (before ++ x ∷ behind) → P x ⊎ Any P (before ++ behind)
  any_without [] x behind (zero, z, inside, is, holds) = inl (subst P (sym is) holds)
  any_without [] x behind (suc k, z, inside, is, holds) = inr (k, z, omega (arith, inside), is, holds)
  any_without (w ∷ ws) x behind (zero, z, inside, is, holds) = inr (0, z, omega arith, is, holds)
  any_without (w ∷ ws) x behind (suc k, z, inside, is, holds) = on (any_without ws x behind (k, z, omega (arith, inside), is, holds))
    where
      on : P x ⊎ Any P (ws ++ behind) → P x ⊎ Any P (w ∷ (ws ++ behind))
      on (inl here) = inl here
      on (inr there) = inr (any_more w (ws ++ behind) there)

contains_here : {X : Type 0} (before : List X) (x : X) (behind : List X) → Contains (before ++ x ∷ behind) x
contains_here [] x behind = (0, omega arith, refl)
contains_here (z ∷ zs) x behind = let (k, inside, is) = contains_here zs x behind in (suc k, omega (arith, inside), is)

sum_middle : {X : Type 0} (f : X → ℕ) (before : List X) (x : X) (behind : List X) → sum_by f (before ++ x ∷ behind) ≡ sum_by f before + (f x + sum_by f behind)
sum_middle f before x behind = sum_by-append f before (x ∷ behind) ∙ ap (λ n. sum_by f before + n) (sum_by-cons f x behind)

length_middle : {X : Type 0} (before : List X) (x y : X) (behind : List X) → length (before ++ y ∷ behind) ≡ length (before ++ x ∷ behind)
length_middle before x y behind = omega (arith, length-append before (y ∷ behind), length-append before (x ∷ behind))

-- two histories that go on as each other are one
front_both : (one two : List Event) → IsFront one two → IsFront two one → one ≡ two
front_both one two ([], is) back = sym (is ∙ append-nil one)
front_both one two (e ∷ es, is) (others, are) = absurd (omega (arith, ap length is, length-append one (e ∷ es), ap length are, length-append two others))

-- where a pass has shared, it or the note has seen all
shared_sees : (setting : Setting) (history : List Event) (pass : PassView) (rights : ℕ) (note : NoteView) → rights ≤ pass.rights → Shares setting pass rights note → PassSeesAll setting history pass →
    PassSeesAll setting history (record pass { rights = pass.rights - rights }) ⊎ NoteSeesAll history note
shared_sees setting history pass rights note enough shares sees = by_count setting.plan.passes refl (pass.rights - rights) refl
  where
    by_count : (passes : ℕ) → passes ≡ setting.plan.passes → (left : ℕ) → left ≡ pass.rights - rights → PassSeesAll setting history (record pass { rights = pass.rights - rights }) ⊎ NoteSeesAll history note
    by_count passes one (suc left) some = inl (record { right = λ two. omega (arith, some); front = sees.front })
    by_count zero one zero none = inl (record { right = λ two. absurd (omega (arith, two, one)); front = sees.front })
    by_count (suc zero) one zero none = inl (record { right = λ two. absurd (omega (arith, two, one)); front = sees.front })
    by_count (suc (suc more)) one zero none =
        let two : 2 ≤ setting.plan.passes = omega (arith, one) in
        inr (record { right = omega (arith, none, enough, sees.right two, shares.rights_are); front = shares.whole two ∙ sees.front })

pub shares_keep : (setting : Setting) (history : List Event) (before behind : List PassView) (notes : List NoteView) (pass : PassView) (rights : ℕ) (note : NoteView) →
    RightsAndFronts setting history (before ++ pass ∷ behind) notes → rights ≤ pass.rights → Shares setting pass rights note →
    RightsAndFronts setting history (before ++ record pass { rights = pass.rights - rights } ∷ behind) (note ∷ notes)
shares_keep setting history before behind notes pass rights note standing enough shares =
    let left : PassView = record pass { rights = pass.rights - rights } in
    let seen = all_at (λ (p : PassView). IsFront p.front history) before pass behind standing.seen in
    record {
      count = length_middle before pass left behind ∙ standing.count;
      rights = omega (arith, standing.rights, enough, shares.rights_are, sum_middle (λ (p : PassView). p.rights) before pass behind, sum_middle (λ (p : PassView). p.rights) before left behind, sum_by-cons (λ (n : NoteView). n.rights) note notes);
      seen = all_middle (λ (p : PassView). IsFront p.front history) before pass left behind seen standing.seen;
      noted = All-cons (λ (n : NoteView). IsFront n.front history) note notes (front_then note.front pass.front history shares.front seen) standing.noted;
      whole = by_whole standing.whole;
    }
  where
    by_whole : Any (PassSeesAll setting history) (before ++ pass ∷ behind) ⊎ Any (NoteSeesAll history) notes →
        Any (PassSeesAll setting history) (before ++ record pass { rights = pass.rights - rights } ∷ behind) ⊎ Any (NoteSeesAll history) (note ∷ notes)
    by_whole (inr there) = inr (any_more (NoteSeesAll history) note notes there)
    by_whole (inl there) = by_pass (any_middle (PassSeesAll setting history) before pass (record pass { rights = pass.rights - rights }) behind there)
      where
        by_sees : PassSeesAll setting history (record pass { rights = pass.rights - rights }) ⊎ NoteSeesAll history note →
            Any (PassSeesAll setting history) (before ++ record pass { rights = pass.rights - rights } ∷ behind) ⊎ Any (NoteSeesAll history) (note ∷ notes)
        by_sees (inl sees) = inl (any_here (PassSeesAll setting history) before (record pass { rights = pass.rights - rights }) behind sees)
        by_sees (inr sees) = inr (any_here (NoteSeesAll history) [] note notes sees)

        by_pass : PassSeesAll setting history pass ⊎ Any (PassSeesAll setting history) (before ++ record pass { rights = pass.rights - rights } ∷ behind) →
            Any (PassSeesAll setting history) (before ++ record pass { rights = pass.rights - rights } ∷ behind) ⊎ Any (NoteSeesAll history) (note ∷ notes)
        by_pass (inl sees) = by_sees (shared_sees setting history pass rights note enough shares sees)
        by_pass (inr others) = inl others

-- the longer front, where one of the two is the whole history
longer_whole : (history one two longer : List Event) → IsLonger one two longer → IsFront one history → IsFront two history → (one ≡ history) ⊎ (two ≡ history) → longer ≡ history
longer_whole history one two longer (inl (same, is)) first second (inl whole) = same ∙ whole
longer_whole history one two longer (inl (same, is)) first second (inr whole) = same ∙ front_both one history first (subst (λ (es : List Event). IsFront es one) whole is)
longer_whole history one two longer (inr (same, is)) first second (inl whole) = same ∙ front_both two history second (subst (λ (es : List Event). IsFront es two) whole is)
longer_whole history one two longer (inr (same, is)) first second (inr whole) = same ∙ whole

longer_front : (history one two longer : List Event) → IsLonger one two longer → IsFront one history → IsFront two history → IsFront longer history
longer_front history one two longer (inl (same, is)) first second = subst (λ (es : List Event). IsFront es history) (sym same) first
longer_front history one two longer (inr (same, is)) first second = subst (λ (es : List Event). IsFront es history) (sym same) second

pub learns_keep : (setting : Setting) (history : List Event) (before behind : List PassView) (earlier later : List NoteView) (old new : PassView) (note : NoteView) →
    RightsAndFronts setting history (before ++ old ∷ behind) (earlier ++ note ∷ later) → Learns setting old note new →
    RightsAndFronts setting history (before ++ new ∷ behind) (earlier ++ later)
learns_keep setting history before behind earlier later old new note standing learns =
    record {
      count = length_middle before old new behind ∙ standing.count;
      rights = omega (arith, standing.rights, rights, sum_middle (λ (p : PassView). p.rights) before old behind, sum_middle (λ (p : PassView). p.rights) before new behind, sum_middle (λ (n : NoteView). n.rights) earlier note later, sum_by-append (λ (n : NoteView). n.rights) earlier later);
      seen = all_middle (λ (p : PassView). IsFront p.front history) before old new behind (longer_front history old.front note.front new.front learns.longer seen noted) standing.seen;
      noted = all_without (λ (n : NoteView). IsFront n.front history) earlier note later standing.noted;
      whole = by_whole standing.whole;
    }
  where
    rights : new.rights ≡ old.rights + note.rights
    rights = ap (λ (p : PassView). p.rights) learns.same

    seen : IsFront old.front history
    seen = all_at (λ (p : PassView). IsFront p.front history) before old behind standing.seen

    noted : IsFront note.front history
    noted = all_at (λ (n : NoteView). IsFront n.front history) earlier note later standing.noted

    by_old : PassSeesAll setting history old ⊎ Any (PassSeesAll setting history) (before ++ new ∷ behind) → Any (PassSeesAll setting history) (before ++ new ∷ behind)
    by_old (inr others) = others
    by_old (inl sees) =
        any_here (PassSeesAll setting history) before new behind
        (record { right = λ two. omega (arith, rights, sees.right two); front = longer_whole history old.front note.front new.front learns.longer seen noted (inl sees.front) })

    by_note : NoteSeesAll history note ⊎ Any (NoteSeesAll history) (earlier ++ later) → Any (PassSeesAll setting history) (before ++ new ∷ behind) ⊎ Any (NoteSeesAll history) (earlier ++ later)
    by_note (inr others) = inr others
    by_note (inl sees) =
        inl (any_here (PassSeesAll setting history) before new behind
        (record { right = λ two. omega (arith, rights, sees.right); front = longer_whole history old.front note.front new.front learns.longer seen noted (inr sees.front) }))

    by_whole : Any (PassSeesAll setting history) (before ++ old ∷ behind) ⊎ Any (NoteSeesAll history) (earlier ++ note ∷ later) →
        Any (PassSeesAll setting history) (before ++ new ∷ behind) ⊎ Any (NoteSeesAll history) (earlier ++ later)
    by_whole (inl there) = inl (by_old (any_middle (PassSeesAll setting history) before old new behind there))
    by_whole (inr there) = by_note (any_without (NoteSeesAll history) earlier note later there)

pub events_keep : (setting : Setting) (history : List Event) (before behind : List PassView) (notes : List NoteView) (old new : PassView) (txn : ℕ) (deed : Deed) (receipt : Receipt) →
    RightsAndFronts setting history (before ++ old ∷ behind) notes → HasAll setting old → OneMore setting old new txn deed receipt →
    RightsAndFronts setting (history ++ receipt.event ∷ []) (before ++ new ∷ behind) notes
events_keep setting history before behind notes old new txn deed receipt standing all more =
    record {
      count = length_middle before old new behind ∙ standing.count;
      rights = omega (arith, standing.rights, more.rights, sum_middle (λ (p : PassView). p.rights) before old behind, sum_middle (λ (p : PassView). p.rights) before new behind);
      seen = all_middle (λ (p : PassView). IsFront p.front (history ++ receipt.event ∷ [])) before old new behind ([], sym front ∙ sym (append-nil new.front)) (All-weaker (λ (p : PassView). IsFront p.front history) (λ (p : PassView). IsFront p.front (history ++ receipt.event ∷ [])) (λ p. on p.front) (before ++ old ∷ behind) standing.seen);
      noted = All-weaker (λ (n : NoteView). IsFront n.front history) (λ (n : NoteView). IsFront n.front (history ++ receipt.event ∷ [])) (λ n. on n.front) notes standing.noted;
      whole = inl (any_here (PassSeesAll setting (history ++ receipt.event ∷ [])) before new behind (record { right = λ two. omega (arith, two, more.rights, all); front = front }));
    }
  where
    front : new.front ≡ history ++ receipt.event ∷ []
    front = more.front ∙ ap (λ es. es ++ receipt.event ∷ []) (all_has_whole setting history (before ++ old ∷ behind) notes old standing (contains_here before old behind) all)

    on : (seen : List Event) → IsFront seen history → IsFront seen (history ++ receipt.event ∷ [])
    on seen is = front_then seen history (history ++ receipt.event ∷ []) is (receipt.event ∷ [], refl)
