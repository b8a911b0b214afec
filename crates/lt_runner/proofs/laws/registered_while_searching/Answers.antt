use Rattle.std.proofs.Common.{◌≡◌, ℕ, Some, None, refl, lit<, lit≤}
use Rattle.std.specs.Fmt.{digits}
use Rattle.lt_ranges.specs.Key.{key_le}
use Rattle.lt_runner.specs.LeftOut.{wish}
use Rattle.lt_runner.proofs.laws.registered_while_searching.Goals as goal

none_some : None ≡ Some (wish 2 97) → ⊥
none_some e = cc

two_one : (let two : ℕ = 2 in let one : ℕ = 1 in two ≡ one) → ⊥
two_one e = cc

pub returns : goal.returns
unfolding key_le digits
returns c = record {
  played = record {
    legal = (
      record { pass = lit< tt; tree = lit< tt; question = refl; replies = refl },
      (
        record { pass = lit< tt; tree = lit< tt; question = refl; replies = refl },
        (
          record { pass = lit< tt; tree = lit< tt; question = refl; replies = refl },
          (
            record { pass = lit< tt; tree = lit< tt; question = refl; replies = refl },
            (
              record { pass = lit< tt; tree = lit< tt; question = refl; replies = refl },
              (
                record { pass = lit< tt; tree = lit< tt; question = refl; replies = refl },
                (
                  record { pass = lit< tt; tree = lit< tt; question = refl; replies = refl },
                  (
                    record { pass = lit< tt; tree = lit< tt; question = refl; replies = refl },
                    (
                      record { pass = lit< tt; tree = lit< tt; question = refl; replies = refl },
                      (
                        record { pass = lit< tt; tree = lit< tt; question = refl; replies = refl },
                        (record { pass = lit< tt; tree = lit< tt; question = refl; replies = refl }, tt),
                      ),
                    ),
                  ),
                ),
              ),
            ),
          ),
        ),
      ),
    );
    txns = refl;
    played = (
      record {
        played = (
          ((0, lit≤ tt, lit≤ tt, lit< tt), refl, refl, refl),
          (
            ((2, lit≤ tt, lit≤ tt, lit< tt), refl, refl, refl),
            (
              ((5, lit≤ tt, lit≤ tt, lit< tt), refl, refl, refl, (refl, refl), tt),
              (((6, lit≤ tt, lit≤ tt, lit< tt), refl, refl, refl), (refl, ((lit≤ tt, refl), ((lit≤ tt, refl), tt)))),
            ),
          ),
        );
        outcome = refl;
        released = refl;
        events = refl;
      },
      (
        record {
          played = (
            ((1, lit≤ tt, lit≤ tt, lit< tt), refl, refl, refl),
            (
              ((3, lit≤ tt, lit≤ tt, lit< tt), refl, refl, refl),
              (((4, lit≤ tt, lit≤ tt, lit< tt), refl, refl, refl, (refl, refl), (refl, tt)), ((lit≤ tt, refl), tt)),
            ),
          );
          outcome = refl;
          released = refl;
          events = refl;
        },
        tt,
      ),
    );
    others = (refl, (refl, (refl, (refl, (refl, (refl, (refl, (refl, (refl, (refl, (refl, tt)))))))))));
  };
  no_run = λ run. none_some ((run.searches.0.1.1.0.1.0 two_one).listed (lit< tt));
}
