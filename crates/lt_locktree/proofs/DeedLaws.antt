-- From what a search holds, plans meet what a commit asks.
use Rattle.std.proofs.Common.{◌≡◌, ℕ, ◌&&◌, ◌==◌, Bool, true, false, List, [], ◌∷◌, nat_lt, length, refl, sym, ap, ◌∙◌, arith, ne_eqb}
use Rattle.lt_ranges.specs.Interval.{Interval}
use Rattle.lt_seq.specs.declared.event.Pair.{Pair}
use Rattle.lt_seq.specs.declared.event.Reply.TheVariants.{HeldBy}
use Rattle.lt_seq.specs.declared.event.Mode.TheVariants.{Tree as TreeMode}
use Rattle.lt_seq.specs.declared.event.Deed.TheVariants.{Ask, Who}
use Rattle.lt_seq.specs.Pairs.{others}
use Rattle.lt_rows.specs.Plan.{setting_of}
use Rattle.lt_seq.specs.Table.{is_buffered, pairs_by, reply_by}
use Rattle.lt_forest.specs.Trees.{pairs_in}
use Rattle.lt_forest.specs.Cuts.{bare}
use Rattle.lt_forest.proofs.PublicLaws.{side_shows_who, side_shows_held}
use Rattle.lt_rows.specs.Lawful.{shown}
use Rattle.lt_locktree.specs.LawsOfDeeds.{WhoCommits, HeldAskCommits}
use Rattle.lt_locktree.proofs.HeldParts.{sub_pairs}
use Rattle.lt_locktree.proofs.Grants.{after_by, reply_of}
use Rattle.lt_locktree.proofs.Unchanged.{stays}

pub who_commits : WhoCommits
who_commits v tree asked here rows hangs more e named l closed lt interval pass is =
    let same = sub_pairs v tree asked here rows hangs more l lt in
    stays v tree asked here rows hangs more l closed lt interval e.txn
    (Who tree asked named (others named asked (pairs_in (shown v []) (bare l.sub)))) refl refl interval
    (λ s are. record { was_tree = tt; is_tree = tt; pairs = refl; mode = refl; replies = refl; question = interval })
    (λ s h lawful on. side_shows_who (setting_of v.plan) e.txn tree s named asked (shown v []) (shown v []) h l.sub l.sub lawful interval on
    refl refl)
    e pass refl (is ∙ ap (λ (ps : List Pair). Who tree asked named (others named asked ps)) same)

-- where a part shows an owner no buffer begins
and_false : (b : Bool) → (b && false) ≡ false
and_false true = refl
and_false false = refl

not_buffered : (buffer txn named s : ℕ) (asked : Interval) (pairs : List Pair) (o : ℕ) (os : List ℕ) → others named asked pairs ≡ o ∷ os
    → is_buffered buffer txn pairs (TreeMode s) ≡ false
not_buffered buffer txn named s asked [] o os e = absurd (let n = ap (λ (xs : List ℕ). length xs) e in omega arith)
not_buffered buffer txn named s asked (p ∷ ps) o os e =
    ap (λ (b : Bool). ((s == 100) && b) && nat_lt 0 buffer) (ne_eqb (length (p ∷ ps)) 0 (λ z. omega arith))
    ∙ ap (λ (b : Bool). b && nat_lt 0 buffer) (and_false (s == 100))

pub held_ask_commits : HeldAskCommits
held_ask_commits v tree asked here rows hangs more e o os l closed lt interval pass are is =
    let same = sub_pairs v tree asked here rows hangs more l lt in
    let mine : List Pair = pairs_in (shown v []) (bare l.sub) in
    let owners : others e.txn asked mine ≡ o ∷ os = ap (others e.txn asked) (sym same) ∙ are in
    stays v tree asked here rows hangs more l closed lt interval e.txn (Ask tree asked (HeldBy (o ∷ os))) refl refl interval
    (λ s _.
    let nb = not_buffered v.plan.buffer e.txn e.txn s asked mine o os owners in
    record {
      was_tree = tt;
      is_tree = tt;
      pairs = sym (ap (λ (b : Bool). (after_by e.txn asked s mine b).pairs) nb ∙ ap (λ (xs : List ℕ). pairs_by xs e.txn asked mine) owners);
      mode = sym (ap (λ (b : Bool). (after_by e.txn asked s mine b).mode) nb);
      replies = ap (Ask tree asked) (ap (reply_of e.txn asked mine) nb ∙ ap reply_by owners);
      question = interval;
    })
    (λ s h lawful on. side_shows_held (setting_of v.plan) e.txn tree s asked (shown v []) (shown v []) h l.sub l.sub o os lawful interval on
    owners refl refl)
    e pass refl is
