-- Parts that are added to an output one after another.
use Rattle.std.proofs.Common.{◌≡◌, ℕ, List, ◌++◌, append_assoc}

pub three_added : (out a b c first second last : List ℕ) → first ≡ out ++ a → second ≡ first ++ b → last ≡ second ++ c → last ≡ out ++ (a ++ (b ++ c))
three_added out a b c first second last e f g = rw (g, f, e) (simp append_assoc)

pub four_added : (out a b c d first second third last : List ℕ) → first ≡ out ++ a → second ≡ first ++ b → third ≡ second ++ c → last ≡ third ++ d → last ≡ out ++ (a ++ (b ++ (c ++ d)))
four_added out a b c d first second third last e f g h = rw (h, g, f, e) (simp append_assoc)

pub five_added : (out a b c d e first second third fourth last : List ℕ) → first ≡ out ++ a → second ≡ first ++ b → third ≡ second ++ c → fourth ≡ third ++ d → last ≡ fourth ++ e → last ≡ out ++ (a ++ (b ++ (c ++ (d ++ e))))
five_added out a b c d e first second third fourth last f g h i j = rw (j, i, h, g, f) (simp append_assoc)
