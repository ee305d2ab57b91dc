-- The words of a line: a space is passed, and a word is cut off up to the next space.
use Rattle.std.proofs.Common.{◌≡◌, ℕ, zero, suc, ◌+◌, ◌-◌, ◌<◌, ◌≤◌, false, eqb, List, [], ◌∷◌, length, get_or, take, drop, Some, None, Option, MatchOption, sym, refl, ap, ◌∙◌, subst, inl, inr, add-zero, add-one, length-drop, arith}
use Rattle.std.proofs.lemmas.List.{drop_all, drop_more, drop-drop, get_or-drop, take_rest}
use Rattle.std.proofs.lemmas.Bool.{eq-eqb, ne_eqb, cases_Bool, cases_lt}
use Rattle.words.specs.Bytes.{before, Piece, words, words_from}

no_words_left : (p : ℕ) (bs : List ℕ) (i : ℕ) → length bs ≤ i → words p (drop i bs) ≡ []
no_words_left p bs i past = ap (words p) (drop_all i bs past)

space_passed : (p : ℕ) (bs : List ℕ) (i : ℕ) → i < length bs → get_or bs i 0 ≡ 32 → words p (drop i bs) ≡ words (p + 1) (drop (i + 1) bs)
space_passed p bs i inside e = simp (drop_more bs i 0 inside, eq-eqb (get_or bs i 0) 32 e)

-- what is read as a word is the same from `start` and from `end`, if only spaces stand between them
spaces_passed : (bs : List ℕ) (start end : ℕ) → start ≤ end → end ≤ length bs → ((k : ℕ) → start ≤ k → k < end → get_or bs k 0 ≡ 32) → words (start + 1) (drop start bs) ≡ words (end + 1) (drop end bs)
spaces_passed bs start zero under inside spaces = let e : start ≡ 0 = omega arith in rw e refl
spaces_passed bs start (suc end) under inside spaces =
    elim (cases_lt end start) [
      | inl over ↦ let e : start ≡ suc end = omega arith in rw e refl
      | inr more ↦ simp add-one (simp add-one at (spaces_passed bs start end more (omega arith) (λ k from to. spaces k from (omega arith)) ∙ space_passed (end + 1) bs end (omega arith) (spaces end more (omega arith))))
    ]

-- a byte from `start` on, in what is left from there
shifted : (bs rest : List ℕ) (start k : ℕ) → rest ≡ drop start bs → start ≤ k → get_or bs k 0 ≡ get_or rest (k - start) 0
shifted bs rest start k is from =
    let e : start + (k - start) ≡ k = omega arith in
    sym (ap (λ l. get_or l (k - start) 0) is ∙ get_or-drop start bs (k - start) 0 ∙ ap (λ n. get_or bs n 0) e)

-- what a search for a byte that is no space comes to, in what is left of a line from `start` on
pub spaces_found : (bs rest : List ℕ) (start : ℕ) (found : Option ℕ) → start ≤ length bs → rest ≡ drop start bs → MatchOption found ((k : ℕ) → k < length rest → get_or rest k 0 ≡ 32) (λ i. (i < length rest) × ((k : ℕ) → k < i → get_or rest k 0 ≡ 32)) → MatchOption found (words (start + 1) (drop start bs) ≡ []) (λ i. words (start + 1) (drop start bs) ≡ words (start + i + 1) (drop (start + i) bs))
spaces_found bs rest start None within is spaces =
    let long : length rest ≡ length bs - start = ap length is ∙ length-drop start bs in
    spaces_passed bs start (length bs) within (omega arith) (λ k from to. shifted bs rest start k is from ∙ spaces (k - start) (omega arith)) ∙ no_words_left (length bs + 1) bs (length bs) (omega arith)
spaces_found bs rest start (Some i) within is at =
    let long : length rest ≡ length bs - start = ap length is ∙ length-drop start bs in
    spaces_passed bs start (start + i) (omega arith) (omega (arith, at.0)) (λ k from to. shifted bs rest start k is from ∙ at.1 (k - start) (omega arith))

-- a word under way ends at the next space
word_ends : (p : ℕ) (bs : List ℕ) → words_from false p bs ≡ words (p + length (before 32 bs)) (drop (length (before 32 bs)) bs)
word_ends p [] = refl
word_ends p (b ∷ bs) =
    elim (cases_Bool (eqb b 32)) [
      | inl e ↦ simp (e, add-zero)
      | inr e ↦
          let next : p + 1 + length (before 32 bs) ≡ p + length (b ∷ before 32 bs) = omega arith in
          simp e (word_ends (p + 1) bs ∙ ap (λ q. words q (drop (length (before 32 bs)) bs)) next)
    ]

-- a word begins at the first byte of bs
abbrev Begins : ℕ → List ℕ → Type 0
Begins p bs = words p bs ≡ record { text = before 32 bs; place = p } ∷ words (p + length (before 32 bs)) (drop (length (before 32 bs)) bs)

word_begins : (p b : ℕ) (bs : List ℕ) → eqb b 32 ≡ false → Begins p (b ∷ bs)
word_begins p b bs e =
    let first : Piece = record { text = b ∷ before 32 bs; place = p } in
    simp e (ap (λ ws. first ∷ ws) (simp e at (word_ends p (b ∷ bs))))

word_cut : (p : ℕ) (bs : List ℕ) (i : ℕ) → i < length bs → (get_or bs i 0 ≡ 32 → ⊥) → words p (drop i bs) ≡ record { text = before 32 (drop i bs); place = p } ∷ words (p + length (before 32 (drop i bs))) (drop (i + length (before 32 (drop i bs))) bs)
word_cut p bs i inside ne =
    rw (← drop-drop (length (before 32 (drop i bs))) i bs)
    (subst (Begins p) (sym (drop_more bs i 0 inside)) (word_begins p (get_or bs i 0) (drop (i + 1) bs) (ne_eqb (get_or bs i 0) 32 ne)))

-- the word that begins at `start`
pub word_read : (line text : List ℕ) (start : ℕ) → start < length line → (get_or line start 0 ≡ 32 → ⊥) → text ≡ before 32 (take (length line - start) (drop start line)) → words (start + 1) (drop start line) ≡ record { text = text; place = start + 1 } ∷ words (start + length text + 1) (drop (start + length text) line)
word_read line text start inside ne e =
    let same : text ≡ before 32 (drop start line) = e ∙ ap (before 32) (take_rest line start) in
    let next : start + 1 + length (before 32 (drop start line)) ≡ start + length (before 32 (drop start line)) + 1 = omega arith in
    rw same (word_cut (start + 1) line start inside ne ∙ ap (λ q. record { text = before 32 (drop start line); place = start + 1 } ∷ words q (drop (start + length (before 32 (drop start line))) line)) next)
