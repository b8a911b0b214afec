-- Laws of the plain pass.
use Rattle.std.proofs.Common.{◌≡◌, ℕ, suc, ◌+◌, ◌^◌, ◌<◌, ◌≤◌, List, [], ◌∷◌, ◌++◌, length, slice_set, map, refl, sym, ap, subst, ◌∙◌, arith, length-append}
use Rattle.lt_seq.specs.declared.event.JoinNote.{JoinNote}
use Rattle.lt_seq.specs.declared.event.Receipt.{Receipt}
use Rattle.lt_seq.specs.declared.event.Reply.{Reply}
use Rattle.lt_seq.specs.declared.event.Reply.TheVariants.{Granted, Buffered, HeldBy}
use Rattle.lt_seq.specs.declared.plan.YardPlan.{YardPlan}
use Rattle.lt_seq.specs.Table.{Setting, TreeState, step, tree_at, tree_of, tree_after, replied, used}
use Rattle.lt_seq.specs.Pairs.{IsLawful}
use Rattle.lt_seq.specs.Sound.{IsSoundTree}
use Rattle.lt_seq.proofs.LawfulLaws.{sound_history}
use Rattle.lt_seq.proofs.TableLaws.{length-after, used_most}
use Rattle.lt_seq.specs.History.{after, IsNext, IsLegal, IsQuestion, calls_from}
use Rattle.lt_seq.proofs.HistoryLaws.{after_more, legal_more, calls_more}
use Rattle.std.specs.List.{AllByRecursion}
use Rattle.lt_seq.specs.Yard.{IsSound, PassView, origin_of}
use Rattle.lt_seq.specs.Passes.{numbers_from, AreAll}
use Rattle.lt_seq.specs.Questions.{events_of}
use Rattle.lt_seq.specs.SeqPass.{plain, alone_view, origin_in, Planned, IsSequential}

-- as many trees as the plan says
pub trees_there : (plan : YardPlan) (number rights : ℕ) (trees : List TreeState) (mine : List Receipt) → IsSequential plan number rights trees mine → length trees ≡ plan.trees
trees_there plan number rights trees mine seq = ap length seq.trees ∙ length-after (plain plan) (events_of mine)

-- and each is sound, so that its pairs are lawful
pub sound_there : (plan : YardPlan) (number rights : ℕ) (trees : List TreeState) (mine : List Receipt) (tree : ℕ) → IsSequential plan number rights trees mine → IsSoundTree (tree_at trees tree)
sound_there plan number rights trees mine tree seq =
    subst (λ ts. IsSoundTree (tree_at ts tree)) (sym seq.trees) (sound_history (plain plan) (events_of mine) seq.legal tree)

pub lawful_there : (plan : YardPlan) (number rights : ℕ) (trees : List TreeState) (mine : List Receipt) (tree : ℕ) → IsSequential plan number rights trees mine → IsLawful (tree_at trees tree).pairs
lawful_there plan number rights trees mine tree seq = (sound_there plan number rights trees mine tree seq).lawful

pub length-events_of : (mine : List Receipt) → length (events_of mine) ≡ length mine
length-events_of [] = refl
length-events_of (r ∷ rs) = ap suc (length-events_of rs)

events_of-append : (mine : List Receipt) (r : Receipt) → events_of (mine ++ r ∷ []) ≡ events_of mine ++ r.event ∷ []
events_of-append [] r = refl
events_of-append (x ∷ xs) r = ap (λ l. x.event ∷ l) (events_of-append xs r)

pub sound_of : (plan : YardPlan) (number rights : ℕ) (trees : List TreeState) (mine : List Receipt) (notes : List JoinNote) → IsSequential plan number rights trees mine → IsSound (plain plan) (alone_view number rights mine notes)
sound_of plan number rights trees mine notes seq = record { legal = seq.legal; mine = seq.mine }

-- the rows in use are few enough
pub used_fits : (plan : YardPlan) (number rights : ℕ) (trees : List TreeState) (mine : List Receipt) → IsSequential plan number rights trees mine → used trees ≤ 2 ^ 39
used_fits plan number rights trees mine seq =
    omega (arith, ap used seq.trees, used_most (plain plan) (events_of mine) seq.legal, length-events_of mine, seq.room)

-- what holds with any reply but one, and with that one too
pub with_any_reply : (reply : Reply) (P : Type 0) → ((reply ≡ Buffered → ⊥) → P) → (reply ≡ Buffered → P) → P
with_any_reply Granted P others one = others (λ e. cc)
with_any_reply Buffered P others one = one refl
with_any_reply (HeldBy owners) P others one = others (λ e. cc)

-- a deed at a tree, with its replies, and what it leaves there
pub record MadeAt (plan : YardPlan) (number : ℕ) (trees : List TreeState) (mine : List Receipt) (receipt : Receipt) (moved : TreeState) : Type 0 where
  pub pass : receipt.event.pass ≡ number
  pub place : receipt.place ≡ plan.first + length mine
  pub room : receipt.place < 2 ^ 39
  pub tree : tree_of receipt.event.deed < plan.trees
  pub question : IsQuestion receipt.event.deed
  pub replies : receipt.event.deed ≡ replied (plain plan) receipt.event.txn receipt.event.deed (tree_at trees (tree_of receipt.event.deed))
  pub moved_is : moved ≡ tree_after (plain plan) receipt.event.txn receipt.event.deed (tree_at trees (tree_of receipt.event.deed))

-- the invariant after one event more
pub sequential_more : (plan : YardPlan) (number rights : ℕ) (trees : List TreeState) (mine : List Receipt) (receipt : Receipt) (moved : TreeState) →
    IsSequential plan number rights trees mine → MadeAt plan number trees mine receipt moved →
    IsSequential plan number rights (slice_set trees (tree_of receipt.event.deed) moved) (mine ++ receipt ∷ [])
sequential_more plan number rights trees mine receipt moved seq made =
    let e = receipt.event in
    let events = events_of-append mine receipt in
    let next : IsNext (plain plan) (after (plain plan) (events_of mine)) e =
    record { pass = omega (arith, made.pass, seq.first, seq.passes); tree = made.tree; question = made.question; replies = subst (λ ts. e.deed ≡ replied (plain plan) e.txn e.deed (tree_at ts (tree_of e.deed))) seq.trees made.replies } in
    record {
      plan = seq.plan;
      passes = seq.passes;
      first = seq.first;
      rights_most = seq.rights_most;
      trees =
          ap (λ t. slice_set trees (tree_of e.deed) t) made.moved_is
          ∙ ap (λ ts. step (plain plan) ts e) seq.trees
          ∙ sym (after_more (plain plan) (events_of mine) e)
          ∙ ap (after (plain plan)) (sym events);
      legal = subst (λ l. IsLegal (plain plan) l) (sym events) (legal_more (plain plan) (events_of mine) e seq.legal next);
      mine =
          ap (λ l. l ++ receipt ∷ []) seq.mine
          ∙ ap (λ n. calls_from plan.first number (events_of mine) ++ record { place = n; event = e } ∷ []) (made.place ∙ ap (λ n. plan.first + n) (sym (length-events_of mine)))
          ∙ sym (calls_more plan.first number (events_of mine) e made.pass)
          ∙ ap (calls_from plan.first number) (sym events);
      room = omega (arith, length-append mine (receipt ∷ []), made.room, made.place);
    }

pub sequential_to : (plan : YardPlan) (number rights : ℕ) (trees new_trees : List TreeState) (mine new_mine : List Receipt) (receipt : Receipt) (moved : TreeState) →
    IsSequential plan number rights trees mine → MadeAt plan number trees mine receipt moved →
    new_trees ≡ slice_set trees (tree_of receipt.event.deed) moved → new_mine ≡ mine ++ receipt ∷ [] → IsSequential plan number rights new_trees new_mine
sequential_to plan number rights trees new_trees mine new_mine receipt moved seq made ts ms =
    subst (λ ts. IsSequential plan number rights ts new_mine) (sym ts) (subst (λ ms. IsSequential plan number rights (slice_set trees (tree_of receipt.event.deed) moved) ms) (sym ms) (sequential_more plan number rights trees mine receipt moved seq made))

-- a list with one pass at its end
last_of : (plan : YardPlan) (before : List Planned) (pass : Planned) → AllByRecursion (λ p. origin_in p ≡ origin_of [] (plain plan)) (before ++ pass ∷ []) → pass.plan ≡ plan
last_of plan [] pass all = ap (λ o. o.setting.plan) all.0
last_of plan (p ∷ ps) pass all = last_of plan ps pass all.1

only_of : (plan : YardPlan) (before : List Planned) (pass : Planned) → plan.passes ≡ 1 → map (λ v. v.number) (map (λ p. p.view) (before ++ pass ∷ [])) ≡ numbers_from 0 plan.passes → map (λ p. p.view) (before ++ pass ∷ []) ≡ pass.view ∷ []
only_of plan [] pass one numbers = refl
only_of plan (p ∷ []) pass one numbers = absurd (omega (arith, ap length (numbers ∙ ap (numbers_from 0) one)))
only_of plan (p ∷ q ∷ ps) pass one numbers = absurd (omega (arith, ap length (numbers ∙ ap (numbers_from 0) one)))

-- what the one pass leaves is what the yard leaves
pub rest_of : (plan : YardPlan) (passes before : List Planned) (pass : Planned) → passes ≡ before ++ pass ∷ [] →
    AllByRecursion (λ p. origin_in p ≡ origin_of [] (plain plan)) passes → AreAll (plain plan) (map (λ p. p.view) passes) → pass.plan.passes ≡ 1 →
    (P : Setting → List PassView → Type 0) → P (plain pass.plan) (pass.view ∷ []) → P (plain plan) (map (λ p. p.view) passes)
rest_of plan passes before pass is of all one P rest =
    let same : pass.plan ≡ plan = last_of plan before pass (subst (AllByRecursion (λ p. origin_in p ≡ origin_of [] (plain plan))) is of) in
    let numbers = subst (λ ps. map (λ v. v.number) (map (λ p. p.view) ps) ≡ numbers_from 0 plan.passes) is all.numbers in
    let views : map (λ p. p.view) passes ≡ pass.view ∷ [] =
    ap (λ ps. map (λ p. p.view) ps) is ∙ only_of plan before pass (ap (λ p. p.passes) (sym same) ∙ one) numbers in
    subst (λ views. P (plain plan) views) (sym views) (subst (λ plan. P (plain plan) (pass.view ∷ [])) same rest)
