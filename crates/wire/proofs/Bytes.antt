-- A number's bytes, written and read, are the number, and bytes side by side are bytes.
use Rattle.std.proofs.Math.Nat.{mod-one, mul-add-div_right, mul-add-mod_self_right, one-le-pow, pow-succ'}
use Rattle.std.proofs.Math.Arith.{digits_div, digits_lt, mod-mul}
use Rattle.std.proofs.Math.Seq.{append_snoc, get_or-append_seam}
use Rattle.std.proofs.Common.{ℕ, zero, suc, ◌+◌, ◌*◌, ◌/◌, ◌%◌, ◌^◌, ◌≤◌, ◌<◌, mod-eq_of_lt, mod-lt, mul_assoc, add-one, arith, ◌≡◌, refl, sym, ap, ap₂, ◌∙◌, List, [], ◌∷◌, ◌++◌, lit<, length, take, drop, length-append, drop-cons}
use Rattle.wire.specs.Bytes.{Bytes, byte_at, number_at, bytes_of}

pub length_bytes_of : (n x : ℕ) → length (bytes_of n x) ≡ n
unfolding bytes_of
length_bytes_of zero x = refl
length_bytes_of (suc n) x = ap suc (length_bytes_of n x)

-- what is written after p is read there: the n low bytes of the number
pub number_at_bytes_of : (n x : ℕ) (p q : List ℕ) → number_at n (p ++ (bytes_of n x ++ q)) (length p) ≡ x % 256 ^ n
unfolding number_at bytes_of
number_at_bytes_of zero x p q = sym (mod-one x)
number_at_bytes_of (suc n) x p q =
    let b : ℕ = x / 256 ^ n % 256 in
    let l : length (p ++ (b ∷ [])) ≡ length p + 1 = length-append p (b ∷ []) in
    let r : number_at n (p ++ (b ∷ (bytes_of n x ++ q))) (length p + 1) ≡ x % 256 ^ n =
    rw (← l, ← append_snoc p b (bytes_of n x ++ q)) (number_at_bytes_of n x (p ++ (b ∷ [])) q) in
    rw (get_or-append_seam p b (bytes_of n x ++ q) 0, r, pow-succ' 256 n)
    (sym (mod-mul x (lit< tt) (one-le-pow n 256 (lit< tt))))

-- ---- the bytes of the number that stands in a list are the list's, since each is below 256
pow_pos : (n : ℕ) → 0 < 256 ^ n
pow_pos n = one-le-pow n 256 (lit< tt)

-- the n low bytes do not see what stands above them
bytes_of_low : (n b y : ℕ) → bytes_of n (b * 256 ^ n + y) ≡ bytes_of n y
unfolding bytes_of
bytes_of_low zero b y = refl
bytes_of_low (suc n) b y =
    let e : b * 256 ^ suc n + y ≡ b * 256 * 256 ^ n + y =
    ap (λ (k : ℕ). k + y) (ap (λ (k : ℕ). b * k) (pow-succ' 256 n) ∙ sym (mul_assoc b 256 (256 ^ n))) in
    let q : (b * 256 * 256 ^ n + y) / 256 ^ n % 256 ≡ y / 256 ^ n % 256 =
    ap (λ (k : ℕ). k % 256) (mul-add-div_right (pow_pos n) (b * 256) y) ∙ mul-add-mod_self_right b 256 (y / 256 ^ n) in
    ap (bytes_of (suc n)) e ∙ ap₂ (λ (x : ℕ) (l : List ℕ). x ∷ l) q (bytes_of_low n (b * 256) y)

pub number_at_lt : (n : ℕ) (s : List ℕ) (i : ℕ) → Bytes s → number_at n s i < 256 ^ n
unfolding number_at
number_at_lt zero s i h = lit< tt
number_at_lt (suc n) s i h = rw (pow-succ' 256 n) (digits_lt (h i) (number_at_lt n s (i + 1) h))

pub bytes_of_number_at : (n : ℕ) (s : List ℕ) (i : ℕ) → Bytes s → i + n ≤ length s
    → bytes_of n (number_at n s i) ≡ take n (drop i s)
unfolding number_at bytes_of
bytes_of_number_at zero s i h k = refl
bytes_of_number_at (suc n) s i h k =
    let b : ℕ = byte_at s i in
    let y : ℕ = number_at n s (i + 1) in
    let q : (b * 256 ^ n + y) / 256 ^ n % 256 ≡ b =
    ap (λ (x : ℕ). x % 256) (digits_div b (number_at_lt n s (i + 1) h)) ∙ mod-eq_of_lt (h i) in
    let r : bytes_of n y ≡ take n (drop (i + 1) s) = bytes_of_number_at n s (i + 1) h (omega arith) in
    let d : drop i s ≡ b ∷ drop (i + 1) s = rw (add-one i) (drop-cons s i 0 (omega arith)) in
    ap₂ (λ (x : ℕ) (l : List ℕ). x ∷ l) q (bytes_of_low n b y ∙ r) ∙ ap (take (suc n)) (sym d)

-- ---- a part of a list, byte by byte
unfoldable pub bytes_from : ℕ → ℕ → List ℕ → List ℕ
bytes_from zero i s = []
bytes_from (suc k) i s = byte_at s i ∷ bytes_from k (i + 1) s

pub take_bytes : (k i : ℕ) (s : List ℕ) → i + k ≤ length s → take k (drop i s) ≡ bytes_from k i s
unfolding bytes_from
take_bytes zero i s h = refl
take_bytes (suc k) i s h =
    let d : drop i s ≡ byte_at s i ∷ drop (i + 1) s = rw (add-one i) (drop-cons s i 0 (omega arith)) in
    ap (take (suc k)) d ∙ ap (λ (l : List ℕ). byte_at s i ∷ l) (take_bytes k (i + 1) s (omega arith))

-- ---- lists of bytes
pub nil_bytes : Bytes []
nil_bytes i = lit< tt

pub cons_bytes : (b : ℕ) (s : List ℕ) → b < 256 → Bytes s → Bytes (b ∷ s)
cons_bytes b s h k zero = h
cons_bytes b s h k (suc i) = k i

pub append_bytes : (s t : List ℕ) → Bytes s → Bytes t → Bytes (s ++ t)
append_bytes [] t h k = k
append_bytes (b ∷ s) t h k = cons_bytes b (s ++ t) (h 0) (append_bytes s t (λ i. h (suc i)) k)

pub bytes_of_bytes : (n x : ℕ) → Bytes (bytes_of n x)
unfolding bytes_of
bytes_of_bytes zero x = nil_bytes
bytes_of_bytes (suc n) x = cons_bytes (x / 256 ^ n % 256) (bytes_of n x) (mod-lt (x / 256 ^ n) (lit< tt)) (bytes_of_bytes n x)
