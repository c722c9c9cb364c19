-- A text without its blanks is a text.
use Rattle.std.proofs.Common.{◌≡◌, ℕ, ◌<◌, Bool, true, false, List, [], ◌∷◌, ◌++◌, length, get_or, cond, arith, subst, refl}
use Rattle.std.specs.Prelude.{reverse}
use Rattle.std.proofs.lemmas.List.{length-append, reverse-append, reverse-reverse}
use Rattle.std.proofs.lemmas.Bool.Decides.{nat_tests}
use Rattle.std.proofs.Math.Seq.{take-append_seam}
use Rattle.bulk_base.specs.Text.{IsText}
use Rattle.bulk_base.specs.Words.{is_blank}
use Rattle.bulk_base.specs.Trim.{trim_start, trim}
use Rattle.port_vars.proofs.TextParts.{IsText-after, IsText-before}

blank_ascii : (b : ℕ) → is_blank b ≡ true → b < 128
blank_ascii b h = grind (arith, nat_tests)

IsText-tail : (b : ℕ) (rest : List ℕ) → b < 128 → IsText (b ∷ rest) → IsText rest
IsText-tail b rest l h = IsText-after (b ∷ rest) 0 h (omega arith) l

at_seam : (xs : List ℕ) (b : ℕ) → get_or (xs ++ b ∷ []) (length xs) 0 ≡ b
at_seam [] b = refl
at_seam (x ∷ xs) b = at_seam xs b

IsText-front : (xs : List ℕ) (b : ℕ) → b < 128 → IsText (xs ++ b ∷ []) → IsText xs
IsText-front xs b l h = rw take-append_seam at (IsText-before (xs ++ b ∷ []) (length xs) h (omega (arith, length-append xs (b ∷ []))) (omega (arith, at_seam xs b)))

start_case : (b : ℕ) (rest : List ℕ) (t : Bool) → is_blank b ≡ t → IsText (b ∷ rest) → (IsText rest → IsText (trim_start rest)) → IsText (cond t (trim_start rest) (b ∷ rest))
start_case b rest true e h f = f (IsText-tail b rest (blank_ascii b e) h)
start_case b rest false e h f = h

pub IsText-trim_start : (text : List ℕ) → IsText text → IsText (trim_start text)
IsText-trim_start [] h = h
IsText-trim_start (b ∷ rest) h = start_case b rest (is_blank b) refl h (IsText-trim_start rest)

reverse_cons : (b : ℕ) (rest : List ℕ) → reverse (b ∷ rest) ≡ reverse rest ++ b ∷ []
reverse_cons b rest = reverse-append (b ∷ []) rest

end_case : (b : ℕ) (rest : List ℕ) (t : Bool) → is_blank b ≡ t → IsText (reverse (b ∷ rest)) → (IsText (reverse rest) → IsText (reverse (trim_start rest))) → IsText (reverse (cond t (trim_start rest) (b ∷ rest)))
end_case b rest true e h f = f (IsText-front (reverse rest) b (blank_ascii b e) (subst IsText (reverse_cons b rest) h))
end_case b rest false e h f = h

IsText-trim_reversed : (text : List ℕ) → IsText (reverse text) → IsText (reverse (trim_start text))
IsText-trim_reversed [] h = h
IsText-trim_reversed (b ∷ rest) h = end_case b rest (is_blank b) refl h (IsText-trim_reversed rest)

reverse_twice : (text : List ℕ) → reverse (reverse text) ≡ text
reverse_twice text = reverse-reverse text

pub IsText-trim : (text : List ℕ) → IsText text → IsText (trim text)
unfolding trim
IsText-trim text h = IsText-trim_reversed (reverse (trim_start text)) (rw reverse_twice (IsText-trim_start text h))
