-- Joining the ranges of one tree from the front, each with the last one kept, makes what `joined` says.
use Rattle.std.proofs.Common.{◌≡◌, ℕ, List, [], ◌∷◌, Bool, true, false, if◌then◌else◌, refl, sym, ap, ap₂, subst, ◌∙◌}
use Rattle.std.specs.Bool.{MatchBool}
use Rattle.std.specs.List.{AllByRecursion}
use Rattle.std.specs.List.Retain.{IsDeduped, DedupsFrom}
use Rattle.lt_ranges.specs.declared.key.Key.{Key}
use Rattle.lt_ranges.specs.Interval.{hull}
use Rattle.lt_seq.specs.declared.event.Held.{Held}
use Rattle.lt_seq.specs.declared.event.Pair.{Pair}
use Rattle.lt_seq.specs.Pairs.{IsLawful, are_joined, joined}
use Rattle.lt_seq.specs.Table.{held_in}
use Rattle.lt_seq.proofs.RunsLaws.{dedup_joined}
use Rattle.lt_barrier.specs.HeldRanges.{pair_of, pairs_of, tree_of, AreOfOneTree, with_next}

-- ranges of one tree are its pairs, with its number
held_of-pairs : (tree : ℕ) (list : List Held) → AllByRecursion (λ h. h.tree ≡ tree) list
    → list ≡ held_in tree (pairs_of list)
held_of-pairs tree [] all = refl
held_of-pairs tree (h ∷ hs) all =
    ap₂ (λ (t : ℕ) (rest : List Held). record { tree = t; owner = h.owner; range = h.range } ∷ rest) all.0 (held_of-pairs tree hs all.1)

-- each is of the tree
abbrev AllOfTree : ℕ → List Held → Type 0
AllOfTree tree list = AllByRecursion (λ held. held.tree ≡ tree) list

-- the last pair kept, once the next was shown to it
abbrev kept_if : Bool → Pair → Pair → Pair
kept_if b last next = record { owner = last.owner; range = if b then hull last.range next.range else last.range }

abbrev kept : List Key → Pair → Pair → Pair
kept marks last next = kept_if (are_joined marks last next) last next

-- the last range kept, the same
abbrev pub taken_if : Bool → Held → Held → Held
taken_if b last next = if b then with_next last next else last

-- what a call does to the last range kept and the next one
pub record TakesIn (marks : List Key) (next last : Held) (b : Bool) (next' last' : Held) : Type 0 where
  pub are : b ≡ are_joined marks (pair_of last) (pair_of next)
  pub stays : next' ≡ next
  pub taken : last' ≡ taken_if b last next

-- what any call does, which leaves the closure as it is
abbrev pub EachTakesIn : {F : Type 0} → (F → Held → Held → Bool → F → Held → Held → Type 0) → List Key → F → Type 0
EachTakesIn {F} R marks f =
    (next last : Held) (b : Bool) (f' : F) (next' last' : Held) → R f next last b f' next' last'
    → (f' ≡ f) × TakesIn marks next last b next' last'

tree_taken : (b : Bool) (last next : Held) → (taken_if b last next).tree ≡ last.tree
tree_taken true last next = refl
tree_taken false last next = refl

pair_taken : (marks : List Key) (b : Bool) (last next : Held) → b ≡ are_joined marks (pair_of last) (pair_of next)
    → pair_of (taken_if b last next) ≡ kept marks (pair_of last) (pair_of next)
pair_taken marks b last next are = by_test b ∙ ap (λ c. kept_if c (pair_of last) (pair_of next)) are
  where
    by_test : (c : Bool) → pair_of (taken_if c last next) ≡ kept_if c (pair_of last) (pair_of next)
    by_test true = refl
    by_test false = refl

-- what is left behind a call
abbrev Behind : {F X : Type 0} → (F → X → X → Bool → F → X → X → Type 0) → F → X → X → List X → List X → Bool → Type 0
Behind {F} {X} R f next last rest ys b =
    MatchBool b (DedupsFrom R f last rest ys) ((zs : List X) × DedupsFrom R f next rest zs × (ys ≡ last ∷ zs))

module _ {F : Type 0} (R : F → Held → Held → Bool → F → Held → Held → Type 0) where
  -- the same calls, seen at the pairs alone
  record AtPairs (f : F) (next last : Pair) (b : Bool) (f' : F) (next' last' : Pair) : Type 0 where
    held_next : Held
    held_last : Held
    left_next : Held
    left_last : Held
    is_next : pair_of held_next ≡ next
    is_last : pair_of held_last ≡ last
    now_next : pair_of left_next ≡ next'
    now_last : pair_of left_last ≡ last'
    call : R f held_next held_last b f' left_next left_last

  at_pairs : (f : F) (last : Held) (rest ys : List Held) → DedupsFrom R f last rest ys
      → DedupsFrom AtPairs f (pair_of last) (pairs_of rest) (pairs_of ys)
  at_pairs f last [] ys told = ap pairs_of told
  at_pairs f last (next ∷ rest) ys told = (
    told.0,
    told.1,
    pair_of told.2,
    pair_of told.3,
    record {
      held_next = next;
      held_last = last;
      left_next = told.2;
      left_last = told.3;
      is_next = refl;
      is_last = refl;
      now_next = refl;
      now_last = refl;
      call = told.4;
    },
    elim told.0 as (λ b. Behind R told.1 told.2 told.3 rest ys b
        → Behind AtPairs told.1 (pair_of told.2) (pair_of told.3) (pairs_of rest) (pairs_of ys) b) [
          | true ↦ λ left. at_pairs told.1 told.3 rest ys left
          | false ↦ λ left. (pairs_of left.0, at_pairs told.1 told.2 rest left.0 left.1, ap pairs_of left.2)
        ] told.5,
  )

  module _ (marks : List Key) (f : F) (h : EachTakesIn R marks f) where
    pair_call : (next last : Pair) (b : Bool) (f' : F) (next' last' : Pair) → AtPairs f next last b f' next' last'
        → (b ≡ are_joined marks last next) × (f' ≡ f) × (next' ≡ next) × (last' ≡ kept marks last next)
    pair_call next last b f' next' last' k =
        let step = h k.held_next k.held_last b f' k.left_next k.left_last k.call in
        let now : pair_of k.left_last ≡ kept marks (pair_of k.held_last) (pair_of k.held_next) =
        ap pair_of step.1.taken ∙ pair_taken marks b k.held_last k.held_next step.1.are in (
          step.1.are ∙ ap₂ (λ (l : Pair) (n : Pair). are_joined marks l n) k.is_last k.is_next,
          step.0,
          sym k.now_next ∙ ap pair_of step.1.stays ∙ k.is_next,
          sym k.now_last ∙ now ∙ ap₂ (λ (l : Pair) (n : Pair). kept marks l n) k.is_last k.is_next,
        )

    pairs_joined : (xs ys : List Held) → IsLawful (pairs_of xs) → IsDeduped R f xs ys → pairs_of ys ≡ joined marks (pairs_of xs)
    pairs_joined [] ys lawful deduped = ap pairs_of deduped.told
    pairs_joined (x ∷ xs) ys lawful deduped =
        dedup_joined AtPairs marks f pair_call (pairs_of (x ∷ xs)) (pairs_of ys) lawful (record { told = at_pairs f x xs ys deduped.told })

    of_tree : (tree : ℕ) (g : F) (last : Held) (rest ys : List Held) → g ≡ f → last.tree ≡ tree → AllOfTree tree rest
        → DedupsFrom R g last rest ys → AllOfTree tree ys
    of_tree tree g last [] ys e of all told = subst (AllOfTree tree) (sym told) (of, tt)
    of_tree tree g last (next ∷ rest) ys e of all told =
        let step = h next last told.0 told.1 told.2 told.3 (subst (λ (state : F). R state next last told.0 told.1 told.2 told.3) e told.4) in
        let last_of : told.3.tree ≡ tree = ap (λ (held : Held). held.tree) step.1.taken ∙ tree_taken told.0 last next ∙ of in
        let next_of : told.2.tree ≡ tree = ap (λ (held : Held). held.tree) step.1.stays ∙ all.0 in
        elim told.0 as (λ b. Behind R told.1 told.2 told.3 rest ys b → AllOfTree tree ys) [
          | true ↦ λ left. of_tree tree told.1 told.3 rest ys step.0 last_of all.1 left
          | false ↦ λ left. subst (AllOfTree tree) (sym left.2) (last_of, of_tree tree told.1 told.2 rest left.0 step.0 next_of all.1 left.1)
        ] told.5

    all_of_tree : (xs ys : List Held) → AreOfOneTree xs → IsDeduped R f xs ys → AllOfTree (tree_of xs) ys
    all_of_tree [] ys one deduped = subst (AllOfTree 0) (sym deduped.told) tt
    all_of_tree (x ∷ xs) ys one deduped = of_tree x.tree f x xs ys refl refl one.1 deduped.told

-- what is left of lawful ranges of one tree where each is shown to the last one kept
pub dedup_held : {F : Type 0} (R : F → Held → Held → Bool → F → Held → Held → Type 0) (marks : List Key) (f : F) (xs ys : List Held)
    → IsDeduped R f xs ys → EachTakesIn R marks f → AreOfOneTree xs → IsLawful (pairs_of xs)
    → ys ≡ held_in (tree_of xs) (joined marks (pairs_of xs))
dedup_held R marks f xs ys deduped h one lawful =
    held_of-pairs (tree_of xs) ys (all_of_tree R marks f h xs ys one deduped)
    ∙ ap (held_in (tree_of xs)) (pairs_joined R marks f h xs ys lawful deduped)
