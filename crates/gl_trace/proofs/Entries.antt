-- Lines are read as the entries whose texts they are, and as nothing else.
use Rattle.std.proofs.Common.{◌≡◌, ℕ, true, List, [], ◌∷◌, ◌++◌, Option, Some, None, refl, sym, ◌∙◌, ap, subst}
use Rattle.std.specs.Prelude.{codes}
use Rattle.std.proofs.lemmas.Slice.Eq.{bytes_eq-Decides}
use Rattle.gl_base.specs.Decimal.{decimal}
use Rattle.gl_world.specs.declared.history.Entry.{Entry}
use Rattle.gl_world.specs.History.{entry}
use Rattle.gl_model.specs.declared.call.Call.{Call}
use Rattle.gl_model.specs.declared.gift.Gift.{Gift}
use Rattle.gl_model.specs.declared.reply.Reply.{Reply}
use Rattle.gl_trace.specs.declared.verb.Verb.{Verb}
use Rattle.gl_trace.specs.declared.verb.Verb.TheVariants.{Probe, Unplug, MakeDir, RemoveDir, Write, Read as ReadVerb, Live, Remove, Tick, Range, Hold, Drop, Lock, Unlock, Enable, Disable, Never, Pull, Interrupt, Level, PullOf, Open, Find, Ioctl, Ask, Tell, ReadLine, ReadChip, PollLine, PollChip, Close, Refused}
use Rattle.gl_trace.specs.declared.verb.TheConstants.{VERBS}
use Rattle.gl_trace.specs.CallRead.{n8, n32}
use Rattle.gl_trace.specs.CallText.{call_words}
use Rattle.gl_trace.specs.EntryRead.{Called, Read, answered, by_verb, by_words, called, called_in, numbered, of_arrow, read, read_of, replied}
use Rattle.gl_trace.specs.EntryText.{TellsBytes}
use Rattle.gl_trace.specs.Forms.{form_of, is_of}
use Rattle.gl_trace.specs.Fronts.{Fields, three_of}
use Rattle.gl_trace.specs.ReplyRead.{reply_of}
use Rattle.gl_trace.specs.ReplyText.{reply_text}
use Rattle.gl_trace.specs.Typed.{Is8, Is32, IsTyped, IsTypedCall, IsTypedReply}
use Rattle.gl_trace.specs.Unique.{IsLineOf, OneEntryALine}
use Rattle.gl_trace.specs.Verbs.{is_verb, verb_of, verb_word}
use Rattle.gl_trace.specs.WordRead.{stripped}
use Rattle.gl_trace.specs.Words.{before}
use Rattle.gl_trace.proofs.Calls.{call_back, verb_same}
use Rattle.gl_trace.proofs.Commands.{reading}
use Rattle.gl_trace.proofs.Fields.{IsWord, f8, f32, found_passes}
use Rattle.gl_trace.proofs.Replies.{reply_back, reply_same}
use Rattle.gl_trace.proofs.Shapes.{IsTextOf, three_found, three_stands}
use Rattle.gl_trace.proofs.Stripping.{stripped_back, stripped_same}

verb_whole : (verb : Verb) → IsWord (verb_word verb)
verb_whole Probe = λ text. refl
verb_whole Unplug = λ text. refl
verb_whole MakeDir = λ text. refl
verb_whole RemoveDir = λ text. refl
verb_whole Write = λ text. refl
verb_whole ReadVerb = λ text. refl
verb_whole Live = λ text. refl
verb_whole Remove = λ text. refl
verb_whole Tick = λ text. refl
verb_whole Range = λ text. refl
verb_whole Hold = λ text. refl
verb_whole Drop = λ text. refl
verb_whole Lock = λ text. refl
verb_whole Unlock = λ text. refl
verb_whole Enable = λ text. refl
verb_whole Disable = λ text. refl
verb_whole Never = λ text. refl
verb_whole Pull = λ text. refl
verb_whole Interrupt = λ text. refl
verb_whole Level = λ text. refl
verb_whole PullOf = λ text. refl
verb_whole Open = λ text. refl
verb_whole Find = λ text. refl
verb_whole Ioctl = λ text. refl
verb_whole Ask = λ text. refl
verb_whole Tell = λ text. refl
verb_whole ReadLine = λ text. refl
verb_whole ReadChip = λ text. refl
verb_whole PollLine = λ text. refl
verb_whole PollChip = λ text. refl
verb_whole Close = λ text. refl
verb_whole Refused = λ text. refl

verb_is : (word : List ℕ) (verb : Verb) → verb_of word ≡ Some verb → verb_word verb ≡ word
verb_is word verb e = (bytes_eq-Decides (verb_word verb) word).0 (found_passes (is_verb word) VERBS verb e)

-- a word that begins a call has no blank
whole_from : (word text : List ℕ) (got : Called) (o : Option Verb) → verb_of word ≡ o → by_verb o text ≡ Some got → IsWord word
whole_from word text got None p e = cc
whole_from word text got (Some verb) p e = subst IsWord (verb_is word verb p) (verb_whole verb)

-- a call was read
call_from : (word text : List ℕ) (got : Called) (o : Option Verb) → verb_of word ≡ o → by_verb o text ≡ Some got → IsTextOf word text got
call_from word text got None p e = cc
call_from word text got (Some verb) p e = subst (λ w. IsTextOf w text got) (verb_is word verb p) (verb_same verb text got e)

call_same : (word text : List ℕ) (got : Called) → called_in word text ≡ Some got → IsTextOf word text got
call_same word text got e = call_from word text got (verb_of word) refl e

-- an entry is read back

line_back : (index actor : ℕ) (words : List (List ℕ)) (text : List ℕ) (got : Called) → Is32 index → Is8 actor → reading words text ≡ Some got → read_of (before (decimal index ∷ decimal actor ∷ words) text) ≡ answered index actor (Some got)
line_back index actor [] text got p q e = cc
line_back index actor (word ∷ words) text got p q e =
    let rest = before words text in
    ap by_words (three_found (decimal index) (decimal actor) word rest (f32.whole index p) (f8.whole actor q) (whole_from word rest got (verb_of word) refl e))
    ∙ ap (λ o. numbered o (n8 (decimal actor)) (called_in word rest)) (f32.back index p) ∙ ap (λ o. numbered (Some index) o (called_in word rest)) (f8.back actor q) ∙ ap (answered index actor) e

pub entry_back : (index actor : ℕ) (call : Call) (reply : Reply) → Is32 index → Is8 actor → IsTypedCall call → IsTypedReply reply → is_of (form_of call) reply ≡ true → TellsBytes call
    → read_of (before (decimal index ∷ decimal actor ∷ call_words call) (codes "-> " ++ reply_text reply)) ≡ Some (read index actor call reply)
entry_back index actor call reply p q c r form z =
    let text = codes "-> " ++ reply_text reply in
    line_back index actor (call_words call) text (called call text) p q (call_back call c z text)
    ∙ ap (λ o. replied index actor call (of_arrow call o)) (stripped_back (codes "-> ") (reply_text reply))
    ∙ ap (replied index actor call) (reply_back (form_of call) reply form r)

-- what was read is an entry with this text
pub record IsRead (line : List ℕ) (r : Read) : Type 0 where
  pub is : line ≡ before (decimal r.index ∷ decimal r.actor ∷ call_words r.call) (codes "-> " ++ reply_text r.reply)
  pub form : is_of (form_of r.call) r.reply ≡ true
  pub tells : TellsBytes r.call

reply_from : (line : List ℕ) (f : Fields) (index actor : ℕ) (got : Called) (r : Read) (reply : Reply) (text : List ℕ) → line ≡ before (f.first ∷ f.second ∷ f.third ∷ []) f.rest → n32 f.first ≡ Some index → n8 f.second ≡ Some actor → called_in f.third f.rest ≡ Some got
    → stripped (codes "-> ") got.rest ≡ Some text → reply_of (form_of got.call) text ≡ Some reply → Some (read index actor got.call reply) ≡ Some r → IsRead line r
reply_from line f index actor got r reply text h p q c s t e =
    let same : read index actor got.call reply ≡ r = cc in
    let told = call_same f.third f.rest got c in
    let answer = reply_same (form_of got.call) text reply t in
    subst (IsRead line) same (record {
      is = h ∙ ap (λ w. before (w ∷ f.second ∷ f.third ∷ []) f.rest) (f32.same f.first index p) ∙ ap (λ w. before (decimal index ∷ w ∷ f.third ∷ []) f.rest) (f8.same f.second actor q)
          ∙ ap (λ t. before (decimal index ∷ decimal actor ∷ []) t) (told.0 ∙ ap (before (call_words got.call)) (stripped_same (codes "-> ") got.rest text s ∙ ap (λ t. codes "-> " ++ t) answer.is));
      form = answer.form_is;
      tells = told.1;
    })

arrow_from : (line : List ℕ) (f : Fields) (index actor : ℕ) (got : Called) (r : Read) (o : Option (List ℕ)) → line ≡ before (f.first ∷ f.second ∷ f.third ∷ []) f.rest → n32 f.first ≡ Some index → n8 f.second ≡ Some actor → called_in f.third f.rest ≡ Some got
    → stripped (codes "-> ") got.rest ≡ o → replied index actor got.call (of_arrow got.call o) ≡ Some r → IsRead line r
arrow_from line f index actor got r None h p q c s e = cc
arrow_from line f index actor got r (Some text) h p q c s e = by_reply (reply_of (form_of got.call) text) refl e
  where
    by_reply : (o : Option Reply) → reply_of (form_of got.call) text ≡ o → replied index actor got.call o ≡ Some r → IsRead line r
    by_reply None t u = cc
    by_reply (Some reply) t u = reply_from line f index actor got r reply text h p q c s t u

called_from : (line : List ℕ) (f : Fields) (index actor : ℕ) (r : Read) (o : Option Called) → line ≡ before (f.first ∷ f.second ∷ f.third ∷ []) f.rest → n32 f.first ≡ Some index → n8 f.second ≡ Some actor → called_in f.third f.rest ≡ o → answered index actor o ≡ Some r → IsRead line r
called_from line f index actor r None h p q c e = cc
called_from line f index actor r (Some got) h p q c e = arrow_from line f index actor got r (stripped (codes "-> ") got.rest) h p q c refl e

numbers_from : (line : List ℕ) (f : Fields) (r : Read) (i a : Option ℕ) → line ≡ before (f.first ∷ f.second ∷ f.third ∷ []) f.rest → n32 f.first ≡ i → n8 f.second ≡ a → numbered i a (called_in f.third f.rest) ≡ Some r → IsRead line r
numbers_from line f r None a h p q e = cc
numbers_from line f r (Some index) None h p q e = cc
numbers_from line f r (Some index) (Some actor) h p q e = called_from line f index actor r (called_in f.third f.rest) h p q refl e

words_from : (line : List ℕ) (r : Read) (o : Option Fields) → three_of line ≡ o → by_words o ≡ Some r → IsRead line r
words_from line r None p e = cc
words_from line r (Some f) p e = numbers_from line f r (n32 f.first) (n8 f.second) (three_stands line f p) refl refl e

pub line_same : (line : List ℕ) (r : Read) → read_of line ≡ Some r → IsRead line r
line_same line r e = words_from line r (three_of line) refl e

module _ {K : Type 0} where
  abbrev pub as_read : ℕ → Entry K Call Reply Gift → Read
  as_read index e = read index e.actor e.call e.reply

  pub back : (line : List ℕ) (index : ℕ) (e : Entry K Call Reply Gift) → IsTyped index e → IsLineOf line index e → read_of line ≡ Some (as_read index e)
  back line index e t l = ap read_of l.is_text ∙ entry_back index e.actor e.call e.reply t.index_fits t.actor_fits t.call_fits t.reply_fits l.has_text.form l.has_text.bytes

  pub same_line : (line : List ℕ) (index : ℕ) (e : Entry K Call Reply Gift) → read_of line ≡ Some (as_read index e) → IsLineOf line index e
  same_line line index e p = let r = line_same line (as_read index e) p in record { has_text = record { form = r.form; bytes = r.tells }; is_text = r.is }

  pub same_entry : (index other : ℕ) (d e : Entry K Call Reply Gift) → Some (as_read index d) ≡ Some (as_read other e) → (index ≡ other) × (d ≡ e)
  same_entry index other d e p =
      let same : as_read index d ≡ as_read other e = cc in
      (ap (λ (r : Read). r.index) same, ap (λ (r : Read). entry r.actor r.call r.reply) same)

  pub unique : OneEntryALine K
  unique line index other d e t u l m = same_entry index other d e (sym (back line index d t l) ∙ back line other e u m)
