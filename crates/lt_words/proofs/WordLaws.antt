-- What clap's answer says of the words.
use Rattle.std.proofs.Common.{◌≡◌, ◌↔◌, List, [], ◌∷◌, Bool, true, false, true≢false, map, All, IsTrue, ◌∙◌, sym, ap, subst}
use Rattle.std.proofs.Common.{Option, Some, None, arith}
use Rattle.std.specs.Prelude.{IfNone, IfSome}
use Rattle.std.proofs.lemmas.Option.{IfSome_then}
use Rattle.std.proofs.lemmas.List.Elements.{All-head, All-tail, All-cons}
use Rattle.clap.specs.Walk.{Text, is_empty}
use Rattle.clap.specs.Simple.{App, HasMatchesOf, subcommand_rows_of}
use Rattle.clap.specs.Takes.{takes}
use Rattle.clap.specs.Faults.{fault_of, is_simple_and_free}
use Rattle.clap.specs.declared.parser.matches.ArgMatches.{ArgMatches}
use Rattle.clap.specs.declared.error.kind.ErrorKind.{ErrorKind}
use Rattle.clap.specs.declared.error.kind.ErrorKind.TheVariants.{OutOfMemory}
use Rattle.clap.specs.contracts.error.kind.ErrorKind.{the_type}
use denote.Enum.Bare.{sameb}
use Rattle.lt_words.specs.Words.{IsCommand, IsNoCommand}
use Rattle.lt_words.specs.Grammar.{grammar}
use Rattle.lt_words.specs.Reading.{IsPlain, IsRead}
use Rattle.lt_words.specs.declared.command.Command.{Command}
use Rattle.lt_words.proofs.Taking.{grammar_is_free, grammar_is_simple}
use Rattle.lt_words.proofs.FormLaws.{ArePlain, command_answers, read_is_command}

-- each word is plain
pub are_plain : {X : Type 0} (f : X → Text) (xs : List X) → All (λ x. IsPlain (f x)) xs → ArePlain (map f xs)
are_plain f [] p = tt
are_plain f (x ∷ xs) p = (All-head (λ y. IsPlain (f y)) x xs p, are_plain f xs (All-tail (λ y. IsPlain (f y)) x xs p))

each_plain : {X : Type 0} (f : X → Text) (xs : List X) → ArePlain (map f xs) → All (λ x. IsPlain (f x)) xs
each_plain f [] p = λ k d lt. absurd (omega arith)
each_plain f (x ∷ xs) p = All-cons (λ y. IsPlain (f y)) x xs p.0 (each_plain f xs p.1)

-- words that are not plain are no command
pub unplain_is_none : {X : Type 0} (f : X → Text) (xs : List X) (b : Bool) → (IsTrue b ↔ All (λ x. IsPlain (f x)) xs) → b ≡ false
    → IsNoCommand (map f xs)
unplain_is_none f xs b plain unplain command is =
    true≢false (sym (plain.1 (each_plain f xs (command_answers (map f xs) command is).plain)) ∙ unplain)

-- what is read of what clap took is the command
pub read_is_some : (a : App) (ws : List Text) (m : ArgMatches) (r : Option Command) → a ≡ grammar → ArePlain ws → HasMatchesOf a ws m
    → (is_simple_and_free a ≡ true → fault_of a ws ≡ []) → IfSome r (IsRead (subcommand_rows_of m)) → IfSome r (IsCommand ws)
read_is_some a ws m r is plain matches passed read =
    let found = subst (λ b. HasMatchesOf b ws m) is matches grammar_is_simple in
    let faultless = ap is_empty (subst (λ b. is_simple_and_free b ≡ true → fault_of b ws ≡ []) is passed grammar_is_free) in
    IfSome_then r read (λ c it. read_is_command ws plain faultless c (subst (λ o. IsRead o c) found.1 it))

-- where it reads nothing, the words are no command
pub unread_is_none : (a : App) (ws : List Text) (m : ArgMatches) (r : Option Command) → a ≡ grammar → HasMatchesOf a ws m
    → IfNone r ((c : Command) → IsRead (subcommand_rows_of m) c → ⊥) → IfNone r (IsNoCommand ws)
unread_is_none a ws m (Some c) is matches none = tt
unread_is_none a ws m None is matches none = λ c command.
    let found = subst (λ b. HasMatchesOf b ws m) is matches grammar_is_simple in
    none c (subst (λ o. IsRead o c) (sym found.1) (command_answers ws c command).reads)

-- an error is no want of memory
pub no_memory_kind : (kind : ErrorKind) → sameb the_type kind OutOfMemory ≡ false → kind ≡ OutOfMemory → ⊥
no_memory_kind kind apart is = true≢false (subst (λ k. sameb the_type k OutOfMemory ≡ false) is apart)

-- where clap does not take them, they are no command
pub untaken_is_none : (a : App) (ws : List Text) → a ≡ grammar → (takes a ws ≡ true → ⊥) → IsNoCommand ws
untaken_is_none a ws is refused c command = refused (subst (λ b. takes b ws ≡ true) (sym is) (command_answers ws c command).takes_them)
