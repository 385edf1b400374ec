-- The words of a text, and the calls that they are read as.
use Rattle.std.proofs.Common.{◌≡◌, ℕ, Bool, true, false, cond, List, [], ◌∷◌, Option, Some, None, refl, sym, ◌∙◌, ap, subst, arith}
use Rattle.std.specs.Prelude.{◌==◌}
use Rattle.std.proofs.lemmas.Bool.Decides.{nat_tests}
use Rattle.gl_model.specs.declared.call.Call.{Call}
use Rattle.gl_trace.specs.CallRead.{of_four, of_one, of_three, of_two}
use Rattle.gl_trace.specs.CallText.{call_words}
use Rattle.gl_trace.specs.EntryText.{TellsBytes}
use Rattle.gl_trace.specs.EntryRead.{Called, called, plainly}
use Rattle.gl_trace.specs.Fronts.{Fields, Front, fields, four_of, fourth_of, front, front_of, one_of, onto_front, second_of, third_of, three_of, two_of, with_first, with_fourth, with_second, with_third}
use Rattle.gl_trace.specs.Words.{before}
use Rattle.gl_trace.proofs.Fields.{Field, IsWord}

-- words that were put are found

pub one_found : (a text : List ℕ) → IsWord a → one_of (before (a ∷ []) text) ≡ Some (fields a [] [] [] text)
one_found a text p = ap with_first (p text)

pub two_found : (a b text : List ℕ) → IsWord a → IsWord b → two_of (before (a ∷ b ∷ []) text) ≡ Some (fields a b [] [] text)
two_found a b text p q = ap second_of (one_found a (before (b ∷ []) text) p) ∙ ap (with_second (fields a [] [] [] (before (b ∷ []) text))) (q text)

pub three_found : (a b c text : List ℕ) → IsWord a → IsWord b → IsWord c → three_of (before (a ∷ b ∷ c ∷ []) text) ≡ Some (fields a b c [] text)
three_found a b c text p q r = ap third_of (two_found a b (before (c ∷ []) text) p q) ∙ ap (with_third (fields a b [] [] (before (c ∷ []) text))) (r text)

pub four_found : (a b c d text : List ℕ) → IsWord a → IsWord b → IsWord c → IsWord d → four_of (before (a ∷ b ∷ c ∷ d ∷ []) text) ≡ Some (fields a b c d text)
four_found a b c d text p q r s = ap fourth_of (three_found a b c (before (d ∷ []) text) p q r) ∙ ap (with_fourth (fields a b c [] (before (d ∷ []) text))) (s text)

-- words that are found stand there

onto_stands : (byte : ℕ) (bytes : List ℕ) (f : Option Front) (got : Front) → onto_front byte f ≡ Some got → ((g : Front) → f ≡ Some g → bytes ≡ before (g.word ∷ []) g.rest) → byte ∷ bytes ≡ before (got.word ∷ []) got.rest
onto_stands byte bytes None got e h = cc
onto_stands byte bytes (Some g) got e h =
    let same : front (byte ∷ g.word) g.rest ≡ got = cc in
    ap (λ b. byte ∷ b) (h g refl) ∙ ap (λ (f : Front). before (f.word ∷ []) f.rest) same

pub front_stands : (text : List ℕ) (got : Front) → front_of text ≡ Some got → text ≡ before (got.word ∷ []) got.rest
front_stands [] got e = cc
front_stands (byte ∷ bytes) got e = by_test (byte == 32) refl e (front_stands bytes)
  where
    by_test : (b : Bool) → (byte == 32) ≡ b → cond b (Some (front [] bytes)) (onto_front byte (front_of bytes)) ≡ Some got → ((g : Front) → front_of bytes ≡ Some g → bytes ≡ before (g.word ∷ []) g.rest) → byte ∷ bytes ≡ before (got.word ∷ []) got.rest
    by_test true p q h =
        let same : front [] bytes ≡ got = cc in
        let blank : byte ≡ 32 = grind (arith, nat_tests) in
        ap (λ b. b ∷ bytes) blank ∙ ap (λ (f : Front). before (f.word ∷ []) f.rest) same
    by_test false p q h = onto_stands byte bytes (front_of bytes) got q h

one_from : (text : List ℕ) (f : Option Front) (got : Fields) → front_of text ≡ f → with_first f ≡ Some got → text ≡ before (got.first ∷ []) got.rest
one_from text None got p e = cc
one_from text (Some g) got p e =
    let same : fields g.word [] [] [] g.rest ≡ got = cc in
    front_stands text g p ∙ ap (λ (f : Fields). before (f.first ∷ []) f.rest) same

pub one_stands : (text : List ℕ) (got : Fields) → one_of text ≡ Some got → text ≡ before (got.first ∷ []) got.rest
one_stands text got e = one_from text (front_of text) got refl e

two_on : (text : List ℕ) (one : Fields) (f : Option Front) (got : Fields) → text ≡ before (one.first ∷ []) one.rest → front_of one.rest ≡ f → with_second one f ≡ Some got → text ≡ before (got.first ∷ got.second ∷ []) got.rest
two_on text one None got h p e = cc
two_on text one (Some g) got h p e =
    let same : fields one.first g.word [] [] g.rest ≡ got = cc in
    h ∙ ap (λ t. before (one.first ∷ []) t) (front_stands one.rest g p) ∙ ap (λ (f : Fields). before (f.first ∷ f.second ∷ []) f.rest) same

two_from : (text : List ℕ) (f : Option Fields) (got : Fields) → one_of text ≡ f → second_of f ≡ Some got → text ≡ before (got.first ∷ got.second ∷ []) got.rest
two_from text None got p e = cc
two_from text (Some one) got p e = two_on text one (front_of one.rest) got (one_stands text one p) refl e

pub two_stands : (text : List ℕ) (got : Fields) → two_of text ≡ Some got → text ≡ before (got.first ∷ got.second ∷ []) got.rest
two_stands text got e = two_from text (one_of text) got refl e

three_on : (text : List ℕ) (two : Fields) (f : Option Front) (got : Fields) → text ≡ before (two.first ∷ two.second ∷ []) two.rest → front_of two.rest ≡ f → with_third two f ≡ Some got → text ≡ before (got.first ∷ got.second ∷ got.third ∷ []) got.rest
three_on text two None got h p e = cc
three_on text two (Some g) got h p e =
    let same : fields two.first two.second g.word [] g.rest ≡ got = cc in
    h ∙ ap (λ t. before (two.first ∷ two.second ∷ []) t) (front_stands two.rest g p) ∙ ap (λ (f : Fields). before (f.first ∷ f.second ∷ f.third ∷ []) f.rest) same

three_from : (text : List ℕ) (f : Option Fields) (got : Fields) → two_of text ≡ f → third_of f ≡ Some got → text ≡ before (got.first ∷ got.second ∷ got.third ∷ []) got.rest
three_from text None got p e = cc
three_from text (Some two) got p e = three_on text two (front_of two.rest) got (two_stands text two p) refl e

pub three_stands : (text : List ℕ) (got : Fields) → three_of text ≡ Some got → text ≡ before (got.first ∷ got.second ∷ got.third ∷ []) got.rest
three_stands text got e = three_from text (two_of text) got refl e

four_on : (text : List ℕ) (three : Fields) (f : Option Front) (got : Fields) → text ≡ before (three.first ∷ three.second ∷ three.third ∷ []) three.rest → front_of three.rest ≡ f → with_fourth three f ≡ Some got → text ≡ before (got.first ∷ got.second ∷ got.third ∷ got.fourth ∷ []) got.rest
four_on text three None got h p e = cc
four_on text three (Some g) got h p e =
    let same : fields three.first three.second three.third g.word g.rest ≡ got = cc in
    h ∙ ap (λ t. before (three.first ∷ three.second ∷ three.third ∷ []) t) (front_stands three.rest g p) ∙ ap (λ (f : Fields). before (f.first ∷ f.second ∷ f.third ∷ f.fourth ∷ []) f.rest) same

four_from : (text : List ℕ) (f : Option Fields) (got : Fields) → three_of text ≡ f → fourth_of f ≡ Some got → text ≡ before (got.first ∷ got.second ∷ got.third ∷ got.fourth ∷ []) got.rest
four_from text None got p e = cc
four_from text (Some three) got p e = four_on text three (front_of three.rest) got (three_stands text three p) refl e

pub four_stands : (text : List ℕ) (got : Fields) → four_of text ≡ Some got → text ≡ before (got.first ∷ got.second ∷ got.third ∷ got.fourth ∷ []) got.rest
four_stands text got e = four_from text (three_of text) got refl e

-- Calls of one to four words. `reads` is what becomes of the words that are found, and `word` the verb.

abbrev Reads : (Option Fields → Option Called) → Type 0
Reads reads = reads None ≡ None

-- the text that a call was read from is the call's, and tells all its bytes
abbrev pub IsTextOf : List ℕ → List ℕ → Called → Type 0
IsTextOf word text got = (before (word ∷ []) text ≡ before (call_words got.call) got.rest) × TellsBytes got.call

called_by : (call : Call) (rest : List ℕ) (got : Called) → Some (called call rest) ≡ Some got → (got.call ≡ call) × (got.rest ≡ rest)
called_by call rest got e = let same : called call rest ≡ got = cc in (sym (ap (λ (g : Called). g.call) same), sym (ap (λ (g : Called). g.rest) same))

module _ {A : Type 0} {ra : List ℕ → Option A} {wa : A → List ℕ} {HA : A → Type 0} (F : Field ra wa HA) where
  module _ (make : A → Call) (reads : Option Fields → Option Called) (is : (f : Fields) → reads (Some f) ≡ plainly (of_one (ra f.first) make) f.rest) where
    pub one_back : (a : A) (text : List ℕ) → HA a → reads (one_of (before (wa a ∷ []) text)) ≡ Some (called (make a) text)
    one_back a text ha = ap reads (one_found (wa a) text (F.whole a ha)) ∙ is (fields (wa a) [] [] [] text) ∙ ap (λ o. plainly (of_one o make) text) (F.back a ha)

    one_read : (word text : List ℕ) (f : Fields) (got : Called) (a : Option A) → ra f.first ≡ a → plainly (of_one a make) f.rest ≡ Some got → text ≡ before (f.first ∷ []) f.rest → ((a : A) → (call_words (make a) ≡ word ∷ wa a ∷ []) × TellsBytes (make a)) → IsTextOf word text got
    one_read word text f got None p e h words = cc
    one_read word text f got (Some a) p e h words =
        let parts = called_by (make a) f.rest got e in (
          ap (λ t. before (word ∷ []) t) (h ∙ ap (λ w. before (w ∷ []) f.rest) (F.same f.first a p))
              ∙ sym (ap (λ c. before (call_words c) got.rest) parts.0 ∙ ap (λ ws. before ws got.rest) (words a).0 ∙ ap (λ r. before (word ∷ wa a ∷ []) r) parts.1),
          subst TellsBytes (sym parts.0) (words a).1,
        )

    pub one_same : (word text : List ℕ) (got : Called) → Reads reads → ((a : A) → (call_words (make a) ≡ word ∷ wa a ∷ []) × TellsBytes (make a)) → reads (one_of text) ≡ Some got → IsTextOf word text got
    one_same word text got none words e = by_fields (one_of text) refl e
      where
        by_fields : (o : Option Fields) → one_of text ≡ o → reads o ≡ Some got → IsTextOf word text got
        by_fields None p q = absurd (let no : None ≡ Some got = sym none ∙ q in cc)
        by_fields (Some f) p q = one_read word text f got (ra f.first) refl (sym (is f) ∙ q) (one_stands text f p) words

module _ {A : Type 0} {B : Type 0} {rA : List ℕ → Option A} {rB : List ℕ → Option B} {wA : A → List ℕ} {wB : B → List ℕ} {HA : A → Type 0} {HB : B → Type 0} (FA : Field rA wA HA) (FB : Field rB wB HB) where
  module _ (make : A → B → Call) (reads : Option Fields → Option Called) (is : (f : Fields) → reads (Some f) ≡ plainly (of_two (rA f.first) (rB f.second) make) f.rest) where
    pub two_back : (a : A) (b : B) (text : List ℕ) → HA a → HB b → reads (two_of (before (wA a ∷ wB b ∷ []) text)) ≡ Some (called (make a b) text)
    two_back a b text ha hb = ap reads (two_found (wA a) (wB b) text (FA.whole a ha) (FB.whole b hb)) ∙ is (fields (wA a) (wB b) [] [] text) ∙ ap (λ o. plainly (of_two o (rB (wB b)) make) text) (FA.back a ha) ∙ ap (λ o. plainly (of_two (Some a) o make) text) (FB.back b hb)

    two_read : (word text : List ℕ) (f : Fields) (got : Called) (oa : Option A) (ob : Option B) → rA f.first ≡ oa → rB f.second ≡ ob → plainly (of_two oa ob make) f.rest ≡ Some got → text ≡ before (f.first ∷ f.second ∷ []) f.rest → ((a : A) (b : B) → (call_words (make a b) ≡ word ∷ wA a ∷ wB b ∷ []) × TellsBytes (make a b)) → IsTextOf word text got
    two_read word text f got None ob pa pb e h words = cc
    two_read word text f got (Some a) None pa pb e h words = cc
    two_read word text f got (Some a) (Some b) pa pb e h words =
        let parts = called_by (make a b) f.rest got e in (
          ap (λ t. before (word ∷ []) t) (h ∙ ap (λ w. before (w ∷ f.second ∷ []) f.rest) (FA.same f.first a pa) ∙ ap (λ w. before (wA a ∷ w ∷ []) f.rest) (FB.same f.second b pb))
              ∙ sym (ap (λ c. before (call_words c) got.rest) parts.0 ∙ ap (λ ws. before ws got.rest) (words a b).0 ∙ ap (λ r. before (word ∷ wA a ∷ wB b ∷ []) r) parts.1),
          subst TellsBytes (sym parts.0) (words a b).1,
        )

    pub two_same : (word text : List ℕ) (got : Called) → Reads reads → ((a : A) (b : B) → (call_words (make a b) ≡ word ∷ wA a ∷ wB b ∷ []) × TellsBytes (make a b)) → reads (two_of text) ≡ Some got → IsTextOf word text got
    two_same word text got none words e = by_fields (two_of text) refl e
      where
        by_fields : (o : Option Fields) → two_of text ≡ o → reads o ≡ Some got → IsTextOf word text got
        by_fields None p q = absurd (let no : None ≡ Some got = sym none ∙ q in cc)
        by_fields (Some f) p q = two_read word text f got (rA f.first) (rB f.second) refl refl (sym (is f) ∙ q) (two_stands text f p) words

module _ {A : Type 0} {B : Type 0} {C : Type 0} {rA : List ℕ → Option A} {rB : List ℕ → Option B} {rC : List ℕ → Option C} {wA : A → List ℕ} {wB : B → List ℕ} {wC : C → List ℕ} {HA : A → Type 0} {HB : B → Type 0} {HC : C → Type 0} (FA : Field rA wA HA) (FB : Field rB wB HB) (FC : Field rC wC HC) where
  module _ (make : A → B → C → Call) (reads : Option Fields → Option Called) (is : (f : Fields) → reads (Some f) ≡ plainly (of_three (rA f.first) (rB f.second) (rC f.third) make) f.rest) where
    pub three_back : (a : A) (b : B) (c : C) (text : List ℕ) → HA a → HB b → HC c → reads (three_of (before (wA a ∷ wB b ∷ wC c ∷ []) text)) ≡ Some (called (make a b c) text)
    three_back a b c text ha hb hc = ap reads (three_found (wA a) (wB b) (wC c) text (FA.whole a ha) (FB.whole b hb) (FC.whole c hc)) ∙ is (fields (wA a) (wB b) (wC c) [] text) ∙ ap (λ o. plainly (of_three o (rB (wB b)) (rC (wC c)) make) text) (FA.back a ha) ∙ ap (λ o. plainly (of_three (Some a) o (rC (wC c)) make) text) (FB.back b hb) ∙ ap (λ o. plainly (of_three (Some a) (Some b) o make) text) (FC.back c hc)

    three_read : (word text : List ℕ) (f : Fields) (got : Called) (oa : Option A) (ob : Option B) (oc : Option C) → rA f.first ≡ oa → rB f.second ≡ ob → rC f.third ≡ oc → plainly (of_three oa ob oc make) f.rest ≡ Some got → text ≡ before (f.first ∷ f.second ∷ f.third ∷ []) f.rest → ((a : A) (b : B) (c : C) → (call_words (make a b c) ≡ word ∷ wA a ∷ wB b ∷ wC c ∷ []) × TellsBytes (make a b c)) → IsTextOf word text got
    three_read word text f got None ob oc pa pb pc e h words = cc
    three_read word text f got (Some a) None oc pa pb pc e h words = cc
    three_read word text f got (Some a) (Some b) None pa pb pc e h words = cc
    three_read word text f got (Some a) (Some b) (Some c) pa pb pc e h words =
        let parts = called_by (make a b c) f.rest got e in (
          ap (λ t. before (word ∷ []) t) (h ∙ ap (λ w. before (w ∷ f.second ∷ f.third ∷ []) f.rest) (FA.same f.first a pa) ∙ ap (λ w. before (wA a ∷ w ∷ f.third ∷ []) f.rest) (FB.same f.second b pb) ∙ ap (λ w. before (wA a ∷ wB b ∷ w ∷ []) f.rest) (FC.same f.third c pc))
              ∙ sym (ap (λ c. before (call_words c) got.rest) parts.0 ∙ ap (λ ws. before ws got.rest) (words a b c).0 ∙ ap (λ r. before (word ∷ wA a ∷ wB b ∷ wC c ∷ []) r) parts.1),
          subst TellsBytes (sym parts.0) (words a b c).1,
        )

    pub three_same : (word text : List ℕ) (got : Called) → Reads reads → ((a : A) (b : B) (c : C) → (call_words (make a b c) ≡ word ∷ wA a ∷ wB b ∷ wC c ∷ []) × TellsBytes (make a b c)) → reads (three_of text) ≡ Some got → IsTextOf word text got
    three_same word text got none words e = by_fields (three_of text) refl e
      where
        by_fields : (o : Option Fields) → three_of text ≡ o → reads o ≡ Some got → IsTextOf word text got
        by_fields None p q = absurd (let no : None ≡ Some got = sym none ∙ q in cc)
        by_fields (Some f) p q = three_read word text f got (rA f.first) (rB f.second) (rC f.third) refl refl refl (sym (is f) ∙ q) (three_stands text f p) words

module _ {A : Type 0} {B : Type 0} {C : Type 0} {D : Type 0} {rA : List ℕ → Option A} {rB : List ℕ → Option B} {rC : List ℕ → Option C} {rD : List ℕ → Option D} {wA : A → List ℕ} {wB : B → List ℕ} {wC : C → List ℕ} {wD : D → List ℕ} {HA : A → Type 0} {HB : B → Type 0} {HC : C → Type 0} {HD : D → Type 0} (FA : Field rA wA HA) (FB : Field rB wB HB) (FC : Field rC wC HC) (FD : Field rD wD HD) where
  module _ (make : A → B → C → D → Call) (reads : Option Fields → Option Called) (is : (f : Fields) → reads (Some f) ≡ plainly (of_four (rA f.first) (rB f.second) (rC f.third) (rD f.fourth) make) f.rest) where
    pub four_back : (a : A) (b : B) (c : C) (d : D) (text : List ℕ) → HA a → HB b → HC c → HD d → reads (four_of (before (wA a ∷ wB b ∷ wC c ∷ wD d ∷ []) text)) ≡ Some (called (make a b c d) text)
    four_back a b c d text ha hb hc hd = ap reads (four_found (wA a) (wB b) (wC c) (wD d) text (FA.whole a ha) (FB.whole b hb) (FC.whole c hc) (FD.whole d hd)) ∙ is (fields (wA a) (wB b) (wC c) (wD d) text) ∙ ap (λ o. plainly (of_four o (rB (wB b)) (rC (wC c)) (rD (wD d)) make) text) (FA.back a ha) ∙ ap (λ o. plainly (of_four (Some a) o (rC (wC c)) (rD (wD d)) make) text) (FB.back b hb) ∙ ap (λ o. plainly (of_four (Some a) (Some b) o (rD (wD d)) make) text) (FC.back c hc) ∙ ap (λ o. plainly (of_four (Some a) (Some b) (Some c) o make) text) (FD.back d hd)

    four_read : (word text : List ℕ) (f : Fields) (got : Called) (oa : Option A) (ob : Option B) (oc : Option C) (od : Option D) → rA f.first ≡ oa → rB f.second ≡ ob → rC f.third ≡ oc → rD f.fourth ≡ od → plainly (of_four oa ob oc od make) f.rest ≡ Some got → text ≡ before (f.first ∷ f.second ∷ f.third ∷ f.fourth ∷ []) f.rest → ((a : A) (b : B) (c : C) (d : D) → (call_words (make a b c d) ≡ word ∷ wA a ∷ wB b ∷ wC c ∷ wD d ∷ []) × TellsBytes (make a b c d)) → IsTextOf word text got
    four_read word text f got None ob oc od pa pb pc pd e h words = cc
    four_read word text f got (Some a) None oc od pa pb pc pd e h words = cc
    four_read word text f got (Some a) (Some b) None od pa pb pc pd e h words = cc
    four_read word text f got (Some a) (Some b) (Some c) None pa pb pc pd e h words = cc
    four_read word text f got (Some a) (Some b) (Some c) (Some d) pa pb pc pd e h words =
        let parts = called_by (make a b c d) f.rest got e in (
          ap (λ t. before (word ∷ []) t) (h ∙ ap (λ w. before (w ∷ f.second ∷ f.third ∷ f.fourth ∷ []) f.rest) (FA.same f.first a pa) ∙ ap (λ w. before (wA a ∷ w ∷ f.third ∷ f.fourth ∷ []) f.rest) (FB.same f.second b pb) ∙ ap (λ w. before (wA a ∷ wB b ∷ w ∷ f.fourth ∷ []) f.rest) (FC.same f.third c pc) ∙ ap (λ w. before (wA a ∷ wB b ∷ wC c ∷ w ∷ []) f.rest) (FD.same f.fourth d pd))
              ∙ sym (ap (λ c. before (call_words c) got.rest) parts.0 ∙ ap (λ ws. before ws got.rest) (words a b c d).0 ∙ ap (λ r. before (word ∷ wA a ∷ wB b ∷ wC c ∷ wD d ∷ []) r) parts.1),
          subst TellsBytes (sym parts.0) (words a b c d).1,
        )

    pub four_same : (word text : List ℕ) (got : Called) → Reads reads → ((a : A) (b : B) (c : C) (d : D) → (call_words (make a b c d) ≡ word ∷ wA a ∷ wB b ∷ wC c ∷ wD d ∷ []) × TellsBytes (make a b c d)) → reads (four_of text) ≡ Some got → IsTextOf word text got
    four_same word text got none words e = by_fields (four_of text) refl e
      where
        by_fields : (o : Option Fields) → four_of text ≡ o → reads o ≡ Some got → IsTextOf word text got
        by_fields None p q = absurd (let no : None ≡ Some got = sym none ∙ q in cc)
        by_fields (Some f) p q = four_read word text f got (rA f.first) (rB f.second) (rC f.third) (rD f.fourth) refl refl refl refl (sym (is f) ∙ q) (four_stands text f p) words
