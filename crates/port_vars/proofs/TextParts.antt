-- Parts of a text that is cut beside ASCII bytes are texts, and so are texts joined.
use Rattle.std.proofs.Common.{◌≡◌, ℕ, ◌+◌, ◌-◌, ◌<◌, ◌≤◌, true, List, [], ◌∷◌, ◌++◌, length, get_or, take, drop, arith, ◌∙◌, refl, zero, suc}
use Rattle.std.specs.Str.{IsAscii, IsCharBoundary}
use Rattle.std.proofs.lemmas.Str.{IsUtf8-append, IsUtf8-between, IsUtf8-nil, IsUtf8-from_ascii, IsCharBoundary-start, IsCharBoundary-end, IsCharBoundary-after_ascii, IsCharBoundary-before_ascii}
use Rattle.std.proofs.lemmas.List.{take_all, length-drop}
use Rattle.std.proofs.lemmas.List.Folds.{list_all-append}
use Rattle.std.proofs.lemmas.Bool.{and_from}
use Rattle.bulk_base.specs.Text.{IsText, is_text_byte}
use Rattle.bulk_base.proofs.TextBytes.{list_all-drop, list_all-take}

pub IsText-nil : IsText []
IsText-nil = (IsUtf8-nil, refl)

pub IsText-append : (a b : List ℕ) → IsText a → IsText b → IsText (a ++ b)
IsText-append a b h k = (IsUtf8-append a b h.0 k.0, list_all-append is_text_byte a b ∙ and_from _ _ h.1 k.1)

pub IsText-between : (bytes : List ℕ) (i j : ℕ) → IsText bytes → i ≤ j → IsCharBoundary bytes i → IsCharBoundary bytes j → IsText (take (j - i) (drop i bytes))
IsText-between bytes i j h o bi bj = (IsUtf8-between bytes i j h.0 o bi bj, list_all-take is_text_byte (j - i) (drop i bytes) (list_all-drop is_text_byte i bytes h.1))

-- from a place to the end
pub IsText-from : (bytes : List ℕ) (i : ℕ) → IsText bytes → i ≤ length bytes → IsCharBoundary bytes i → IsText (drop i bytes)
IsText-from bytes i h o bi =
    let all : take (length bytes - i) (drop i bytes) ≡ drop i bytes = take_all _ _ (omega (arith, length-drop i bytes)) in
    rw all at (IsText-between bytes i (length bytes) h o bi (IsCharBoundary-end bytes))

-- up to a place
pub IsText-to : (bytes : List ℕ) (j : ℕ) → IsText bytes → IsCharBoundary bytes j → IsText (take j bytes)
IsText-to bytes j h bj = let e : j - 0 ≡ j = omega arith in rw e at (IsText-between bytes 0 j h (omega arith) (IsCharBoundary-start bytes h.0) bj)

-- before and after an ASCII byte
pub IsText-before : (bytes : List ℕ) (i : ℕ) → IsText bytes → i < length bytes → get_or bytes i 0 < 128 → IsText (take i bytes)
IsText-before bytes i h l a = IsText-to bytes i h (IsCharBoundary-before_ascii bytes i l a)

pub IsText-after : (bytes : List ℕ) (i : ℕ) → IsText bytes → i < length bytes → get_or bytes i 0 < 128 → IsText (drop (i + 1) bytes)
IsText-after bytes i h l a = IsText-from bytes (i + 1) h (omega arith) (IsCharBoundary-after_ascii bytes i h.0 l a)

one_ascii : (b : ℕ) → b < 128 → IsAscii (b ∷ [])
one_ascii b l zero = l
one_ascii b l (suc k) = omega arith

pub IsText-byte : (b : ℕ) → b < 128 → is_text_byte b ≡ true → IsText (b ∷ [])
IsText-byte b ascii t = (IsUtf8-from_ascii (b ∷ []) (one_ascii b ascii), and_from _ _ t refl)

-- without its last byte, where that is ASCII
pub IsText-without_last : (bytes : List ℕ) → IsText bytes → 0 < length bytes → get_or bytes (length bytes - 1) 0 < 128 → IsText (take (length bytes - 1) bytes)
IsText-without_last bytes h l a = IsText-before bytes (length bytes - 1) h (omega arith) a

-- what a slice from a place to the end has
pub rest_is : (bytes : List ℕ) (start : ℕ) → take (length bytes - start) (drop start bytes) ≡ drop start bytes
rest_is bytes start = take_all _ _ (omega (arith, length-drop start bytes))
