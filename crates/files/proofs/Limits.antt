-- What is read up to a limit and stays below it is all that there is.
use Rattle.std.proofs.Common.{◌≡◌, ℕ, ◌<◌, List, length, take, None, Some, IfSome, Option, ap, ◌∙◌, arith}
use Rattle.std.specs.Option.{option_map}
use Rattle.std.proofs.lemmas.List.{length-take, take_all}

pub all_below_limit : (limit : ℕ) (known : Option (List ℕ)) (bytes : List ℕ) → IfSome (option_map (take limit) known) (λ xs. bytes ≡ xs) → length bytes < limit → IfSome known (λ xs. bytes ≡ xs)
all_below_limit limit None bytes read below = tt
all_below_limit limit (Some xs) bytes read below = read ∙ take_all limit xs (omega (arith, ap length read ∙ length-take limit xs))
