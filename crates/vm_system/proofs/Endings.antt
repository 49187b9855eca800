-- Behind the end of an object nothing is on the way up.
use Rattle.vm_system.proofs.Common.{Bool, Ending, EndsLast, List, Message, NoEnd, None, Option, Some, [], ap, arith, false, first, if◌then◌else◌, inl, inr}
use Rattle.vm_system.proofs.Common.{is_end, nat_tests, never, refl, rest, subst, sym, true, without_control, ℕ, ◌++◌, ◌==◌, ◌||◌, ◌∙◌, ◌∷◌, ◌≡◌}

-- messages without an end have none after one more that isn't
none_more : (q : List Message) (m : Message) → NoEnd q → is_end m ≡ false → NoEnd (q ++ m ∷ [])
none_more [] m none is = (is, tt)
none_more (n ∷ q) m none is = (none.0, none_more q m none.1 is)

-- and only the last after any
last_more : (q : List Message) (m : Message) → NoEnd q → EndsLast (q ++ m ∷ [])
last_more [] m none = one (is_end m) refl
  where
    one : (b : Bool) → is_end m ≡ b → EndsLast (m ∷ [])
    one true is = inl (is, refl)
    one false is = inr (is, tt)
last_more (n ∷ q) m none = inr (none.0, last_more q m none.1)

alive : (control : ℕ) (live : Option ℕ) → live ≡ Some control → live ≡ None → ⊥
alive control live is none = absurd (let bad : Some control ≡ None = sym is ∙ none in cc)

-- a message of the living control that isn't its end
pub ends_said : (b ended : Bool) (live : Option ℕ) (control : ℕ) (q : List Message) (m : Message) → Ending live ended q → (b ≡ true → live ≡ Some control)
    → is_end m ≡ false
    → Ending live ended (if b then q ++ m ∷ [] else q)
ends_said false ended live control q m old lives is = old
ends_said true ended live control q m old lives is = record {
  living = λ k at. none_more q m (old.living k at) is;
  last = last_more q m (old.living control (lives refl));
  over = λ gone. absurd (alive control live (lives refl) (old.over gone).1);
}

-- its end
pub ends_ended : (b ended : Bool) (live : Option ℕ) (control : ℕ) (q : List Message) (m : Message) → Ending live ended q → (b ≡ true → live ≡ Some control)
    → Ending (if b then without_control control live else live) ended (if b then q ++ m ∷ [] else q)
ends_ended false ended live control q m old lives = old
ends_ended true ended live control q m old lives = record {
  living = λ k at. absurd (alive k (without_control control live) at gone_is);
  last = last_more q m (old.living control (lives refl));
  over = λ gone. absurd (alive control live (lives refl) (old.over gone).1);
}
  where
    same : (k : ℕ) → k == k ≡ true
    same k = grind (arith, nat_tests)

    chosen : (c : Bool) (x y : Option ℕ) → c ≡ true → (if c then x else y) ≡ x
    chosen true x y is = refl
    chosen false x y is = never is

    gone_is : without_control control live ≡ None
    gone_is = ap (without_control control) (lives refl) ∙ chosen (control == control) None (Some control) (same control)

-- the first control of an object
pub ends_created : (b ended : Bool) (live : Option ℕ) (control : ℕ) (q : List Message) (m : Message) → Ending live ended q
    → (b ≡ true → (q ≡ []) × (ended ≡ false)) → is_end m ≡ false
    → Ending (if b then Some control else live) ended (if b then q ++ m ∷ [] else q)
ends_created false ended live control q m old fresh is = old
ends_created true ended live control q m old fresh is = record {
  living = λ k at. none_more q m none is;
  last = last_more q m none;
  over = λ gone. never (sym (fresh refl).1 ∙ gone);
}
  where
    none : NoEnd q
    none = subst NoEnd (sym (fresh refl).0) tt

-- the first message is taken
pub ends_taken : (b ended : Bool) (live : Option ℕ) (q : List Message) (m : Message) → Ending live ended q → (b ≡ true → first q ≡ Some m)
    → Ending live (if b then is_end m || ended else ended) (if b then rest q else q)
ends_taken false ended live q m old head = old
ends_taken true ended live [] m old head = absurd (let bad : None ≡ Some m = head refl in cc)
ends_taken true ended live (n ∷ q) m old head =
    subst (λ (x : Message). Ending live (is_end x || ended) q) (same (head refl))
    (elim old.last as (λ _. Ending live (is_end n || ended) q) [ inl h ↦ over h.0 h.1 | inr h ↦ more h.0 h.1 ])
  where
    same : Some n ≡ Some m → n ≡ m
    same e = cc

    full : {A : Type 0} → n ∷ q ≡ [] → A
    full e = absurd (let bad : n ∷ q ≡ [] = e in cc)

    dead : (l : Option ℕ) → is_end n ≡ true → ((control : ℕ) → l ≡ Some control → NoEnd (n ∷ q)) → l ≡ None
    dead None end none = refl
    dead (Some control) end none = never (sym (none control refl).0 ∙ end)

    over : is_end n ≡ true → q ≡ [] → Ending live (is_end n || ended) q
    over end none = record {
      living = λ k at. (old.living k at).1;
      last = subst EndsLast (sym none) tt;
      over = λ gone. (none, dead live end old.living);
    }

    more : is_end n ≡ false → EndsLast q → Ending live (is_end n || ended) q
    more end last = record {
      living = λ k at. (old.living k at).1;
      last = last;
      over = λ gone. full (old.over (subst (λ (x : Bool). x || ended ≡ true) end gone)).0;
    }
