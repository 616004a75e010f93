use Rattle.std.proofs.Common.{List, ◌++◌, [], ℕ, arith, rules}
use contract.BorrowLft.{◌⊑◌, ⊑_meet, ⊑_static}
use Rattle.row.proofs.mode_info.first_bad_block.Goals as goal

-- a lifetime within three others, as the closure over three slices asks for it
all_three : (κ a b c : List ℕ) → κ ⊑ a → κ ⊑ b → κ ⊑ c → κ ⊑ (a ++ []) ++ ((b ++ []) ++ ((c ++ []) ++ []))
all_three κ a b c p q r =
    let one = λ (l : List ℕ) (h : κ ⊑ l). ⊑_meet κ l [] h (⊑_static κ) in
    ⊑_meet κ _ _ (one a p) (⊑_meet κ _ _ (one b q) (⊑_meet κ _ _ (one c r) (⊑_static κ)))

-- each place below the count is in each list
pub first_place-requires : goal.first_place-requires
first_place-requires c κs within =
    let lives = all_three κs.0 κs.1.0 κs.1.1.0 κs.1.1.1.0 within.0 within.1.0 within.1.1.0 in (
      ⊑_meet _ _ _ lives lives,
      (λ k h. (λ _ _ _ _ _ _ _ _ _. omega arith, λ _ _ _ _ _ _ _ _ _ _ _. omega arith, λ _ _ _ _ _ _ _ _ _ _ _ _ _. omega arith), search rules),
    )
