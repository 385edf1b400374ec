-- Lines that are answered one after another.
use Rattle.std.proofs.Common.{◌≡◌, ℕ, suc, ◌<◌, ◌≤◌, ◌+◌, Bool, true, false, ◌&&◌, not, List, [], ◌∷◌, ◌++◌, length, take, Option, OnErr, OnOk, Result, Ok, Err, refl, sym, ap, ◌∙◌, subst, cond, arith, inl, inr}
use Rattle.std.specs.Prelude.{◌==◌, IsErrOf}
use Rattle.std.proofs.lemmas.Bool.{cases_lt, eqb-true, lt-ltb, ne_eqb, true≢false}
use Rattle.std.proofs.lemmas.Result.{on_ok_weaker}
use Rattle.std.proofs.Math.Seq.{take-append-add}
use Rattle.std.specs.Io.KnownBytes.{Appends}
use Rattle.std.proofs.lemmas.List.{append_assoc, append-nil, length-append, length-take-le, take-append-le, take_all}
use Rattle.gl_base.specs.Count.{counted_up}
use Rattle.gl_base.specs.Rows.{Each}
use Rattle.gl_script.specs.declared.refusal.Spot.{Spot}
use Rattle.gl_script.specs.Faults.{spot}
use Rattle.gl_script.specs.Served.{Kind, line_kind}
use Rattle.gl_script.specs.declared.refusal.RefusalKind.TheVariants.{Limit}
use Rattle.gl_script.specs.declared.served.Stage.{Stage}
use Rattle.gl_script.specs.declared.served.Stage.TheVariants.{Opening, Headed, Open}
use Rattle.gl_served.specs.declared.question.Question.{Question}
use Rattle.gl_served.specs.declared.question.Question.TheVariants.{Nothing}
use Rattle.gl_served.specs.Frames.{AreFrames, frame_of}
use Rattle.gl_served.specs.Questions.{IsReply, IsReplyTo, question_in, question_of}
use Rattle.gl_served.specs.Served.{Accepted, IsAnswer, Keeps, ServedValue, kind_after, limited, nothing_accepted, pair_after}
use Rattle.gl_served.specs.CutLines.{HasServed, HasServedAll, HasServedLines, Sent, ServesTo, WroteFront, WrotePart, WroteWhole, count_after, is_line, joined, with_rest}
use Rattle.gl_served.specs.declared.limits.TheConstants.{LINE_MAX}
use Rattle.gl_served.specs.declared.ended.Ended.{Ended}
use Rattle.gl_served.specs.declared.answered.Answer.{Answer}
use Rattle.gl_served.proofs.Known.{appends_more, appends_nothing}

-- one line more
pub frames_more : (said : Accepted) (answered : ℕ) (lines : List (List ℕ)) (written : List ℕ) (mid : Accepted) (line : List ℕ) (answer : Answer) (text : List ℕ) (then : Accepted)
    → AreFrames said answered lines written mid → IsReply mid line answer text then
    → AreFrames said answered (lines ++ line ∷ []) (written ++ frame_of (counted_up (count_after answered lines)) answer text) then
frames_more said answered [] written mid line answer text then (none, same) is =
    subst (λ (s : Accepted). AreFrames s answered (line ∷ []) (written ++ frame_of (counted_up answered) answer text) then) same
    (answer, text, then, [], is, (refl, refl), ap (λ (w : List ℕ). w ++ frame_of (counted_up answered) answer text) none ∙ sym (append-nil (frame_of (counted_up answered) answer text)))
frames_more said answered (first ∷ lines) written mid line answer text then (a, t, m, rest, is_first, frames, whole) is = (
  a,
  t,
  m,
  rest ++ frame_of (counted_up (count_after (counted_up answered) lines)) answer text,
  is_first,
  frames_more m (counted_up answered) lines rest mid line answer text then frames is,
  ap (λ (w : List ℕ). w ++ frame_of (counted_up (count_after (counted_up answered) lines)) answer text) whole ∙ append_assoc (frame_of (counted_up answered) a t) rest (frame_of (counted_up (count_after (counted_up answered) lines)) answer text),
)

pub count_more : (answered : ℕ) (lines : List (List ℕ)) (line : List ℕ) → count_after answered (lines ++ line ∷ []) ≡ counted_up (count_after answered lines)
count_more answered [] line = refl
count_more answered (first ∷ lines) line = count_more (counted_up answered) lines line

pub joined_more : (lines : List (List ℕ)) (line : List ℕ) → joined (lines ++ line ∷ []) ≡ joined lines ++ (line ++ 10 ∷ [])
joined_more [] line = refl
joined_more (first ∷ lines) line = ap (λ (rest : List ℕ). first ++ 10 ∷ rest) (joined_more lines line) ∙ sym (append_assoc first (10 ∷ joined lines) (line ++ 10 ∷ []))

pub each_more : (lines : List (List ℕ)) (line : List ℕ) → Each (λ l. is_line l ≡ true) lines → is_line line ≡ true → Each (λ l. is_line l ≡ true) (lines ++ line ∷ [])
each_more [] line each is = (is, tt)
each_more (first ∷ lines) line (h, each) is = (h, each_more lines line each is)

pub line_more : (bytes : List ℕ) (byte : ℕ) → is_line bytes ≡ true → (byte == 10) ≡ false → is_line (bytes ++ byte ∷ []) ≡ true
line_more [] byte is other = rw other refl
line_more (first ∷ bytes) byte is other = more (not (first == 10)) (λ h. line_more bytes byte h other) is
  where
    more : (b : Bool) → (is_line bytes ≡ true → is_line (bytes ++ byte ∷ []) ≡ true) → (b && is_line bytes) ≡ true → (b && is_line (bytes ++ byte ∷ [])) ≡ true
    more true later h = later h
    more false later h = h

-- A line of more than `LINE_MAX` bytes is answered as any other one that is as long, or longer.
pub long_asks : (stage : Stage) (line : List ℕ) → LINE_MAX < length line → question_of stage line ≡ Nothing
long_asks Opening line long = refl
long_asks (Headed version) line long = refl
long_asks (Open version) line long = ap (λ b. cond b Nothing (question_in line)) (lt-ltb LINE_MAX (length line) long)

pub long_kind : (said : Accepted) (line : List ℕ) → LINE_MAX < length line → kind_after said line ≡ Err (spot (LINE_MAX + 1) Limit)
long_kind said line long = ap (λ b. cond b (Err (spot (LINE_MAX + 1) Limit)) (limited (pair_after said) (line_kind said.stage line))) (lt-ltb LINE_MAX (length line) long)

long_reply : (said : Accepted) (line : List ℕ) (answer : Answer) (text : List ℕ) (then : Accepted) → LINE_MAX < length line → IsReply said line answer text then ≡ IsAnswer said [] (Err (spot (LINE_MAX + 1) Limit)) answer text then
long_reply said line answer text then long =
    ap (λ (q : Question). IsReplyTo q said line answer text then) (long_asks said.stage line long) ∙ ap (λ (k : Result Kind Spot). IsAnswer said line k answer text then) (long_kind said line long)

pub cut_reply : (said : Accepted) (line rest : List ℕ) (answer : Answer) (text : List ℕ) (then : Accepted) → line ≡ take (LINE_MAX + 1) rest → IsReply said line answer text then → IsReply said rest answer text then
cut_reply said line rest answer text then is reply = elim (cases_lt LINE_MAX (length rest)) [
  | inl long ↦
      (let whole : length line ≡ LINE_MAX + 1 = ap length is ∙ length-take-le (LINE_MAX + 1) rest (omega (arith, long)) in
      subst (λ (T : Type 0). T) (long_reply said line answer text then (omega (arith, whole)) ∙ sym (long_reply said rest answer text then long)) reply)
  | inr short ↦ subst (λ (l : List ℕ). IsReply said l answer text then) (is ∙ take_all (LINE_MAX + 1) rest (omega (arith, short))) reply
]

no_end_line : (byte : ℕ) → (byte ≡ 10 → ⊥) → (byte == 10) ≡ false
no_end_line byte other = ne_eqb byte 10 other

-- what is kept of a line with a byte more
line_with : (line rest : List ℕ) (byte : ℕ) (then : List ℕ) → line ≡ take (LINE_MAX + 1) rest → (LINE_MAX < length line → then ≡ line) → (length line ≤ LINE_MAX → then ≡ line ++ byte ∷ []) → then ≡ take (LINE_MAX + 1) (rest ++ byte ∷ [])
line_with line rest byte then is long short = elim (cases_lt LINE_MAX (length rest)) [
  | inl more ↦
      (let whole : length line ≡ LINE_MAX + 1 = ap length is ∙ length-take-le (LINE_MAX + 1) rest (omega (arith, more)) in
      long (omega (arith, whole)) ∙ is ∙ sym (take-append-le (LINE_MAX + 1) rest (byte ∷ []) (omega (arith, more))))
  | inr few ↦
      (let same : line ≡ rest = is ∙ take_all (LINE_MAX + 1) rest (omega (arith, few)) in
      let size : length line ≡ length rest = ap length same in
      short (omega (arith, size, few)) ∙ ap (λ (l : List ℕ). l ++ byte ∷ []) same ∙ sym (take_all (LINE_MAX + 1) (rest ++ byte ∷ []) (omega (arith, few, length-append rest (byte ∷ [])))))
]

pub byte_added : (served : ServedValue) (line : List ℕ) (answered : ℕ) (bytes written : List ℕ) (byte : ℕ) (then : List ℕ) → HasServed served line answered bytes written → (byte ≡ 10 → ⊥)
    → (LINE_MAX < length line → then ≡ line) → (length line ≤ LINE_MAX → then ≡ line ++ byte ∷ []) → HasServed served then answered (bytes ++ byte ∷ []) written
byte_added served line answered bytes written byte then has other long short = record {
  lines = has.lines;
  rest = has.rest ++ byte ∷ [];
  said = has.said;
  cut = record {
    whole = ap (λ (b : List ℕ). b ++ byte ∷ []) has.cut.whole ∙ append_assoc (joined has.lines) has.rest (byte ∷ []);
    each = has.cut.each;
    no_end = line_more has.rest byte has.cut.no_end (no_end_line byte other);
  };
  frames = has.frames;
  keeps = has.keeps;
  line_is = line_with line has.rest byte then has.line_is long short;
  count = has.count;
}

module _ (served : ServedValue) (line : List ℕ) (answered : ℕ) (bytes written : List ℕ) (has : HasServed served line answered bytes written) (answer : Answer) (text : List ℕ) (then : Accepted) (reply : IsReply has.said line answer text then) where
  all_frames : AreFrames nothing_accepted 0 (has.lines ++ has.rest ∷ []) (written ++ frame_of (counted_up answered) answer text) then
  all_frames =
      subst (λ (n : ℕ). AreFrames nothing_accepted 0 (has.lines ++ has.rest ∷ []) (written ++ frame_of (counted_up n) answer text) then) (sym has.count)
      (frames_more nothing_accepted 0 has.lines written has.said has.rest answer text then has.frames (cut_reply has.said line has.rest answer text then has.line_is reply))

  pub line_answered : (now : ServedValue) (count : ℕ) (frame : List ℕ) → Keeps now then → count ≡ counted_up answered → frame ≡ frame_of count answer text
      → HasServed now [] count (bytes ++ 10 ∷ []) (written ++ frame)
  line_answered now count frame keeps counted is = record {
    lines = has.lines ++ has.rest ∷ [];
    rest = [];
    said = then;
    cut = record {
      whole = ap (λ (b : List ℕ). b ++ 10 ∷ []) has.cut.whole ∙ append_assoc (joined has.lines) has.rest (10 ∷ []) ∙ sym (joined_more has.lines has.rest) ∙ sym (append-nil (joined (has.lines ++ has.rest ∷ [])));
      each = each_more has.lines has.rest has.cut.each has.cut.no_end;
      no_end = refl;
    };
    frames = subst (λ (f : List ℕ). AreFrames nothing_accepted 0 (has.lines ++ has.rest ∷ []) (written ++ f) then) (sym (is ∙ ap (λ (n : ℕ). frame_of n answer text) counted)) all_frames;
    keeps = keeps;
    line_is = refl;
    count = counted ∙ ap counted_up has.count ∙ sym (count_more 0 has.lines has.rest);
  }

  pub last_answered : (count : ℕ) (frame : List ℕ) → (line ≡ [] → ⊥) → count ≡ counted_up answered → frame ≡ frame_of count answer text → HasServedAll bytes (written ++ frame) then
  last_answered count frame some counted is = record {
    lines = has.lines;
    rest = has.rest;
    cut = has.cut;
    frames = subst (λ (ls : List (List ℕ)). AreFrames nothing_accepted 0 ls (written ++ frame) then) (last_line has.rest has.line_is)
        (subst (λ (f : List ℕ). AreFrames nothing_accepted 0 (has.lines ++ has.rest ∷ []) (written ++ f) then) (sym (is ∙ ap (λ (n : ℕ). frame_of n answer text) counted)) all_frames);
  }
    where
      last_line : (rest : List ℕ) → line ≡ take (LINE_MAX + 1) rest → has.lines ++ rest ∷ [] ≡ with_rest has.lines rest
      last_line [] is_none = absurd (some is_none)
      last_line (byte ∷ rest) is_some = refl

-- the frame of a line's answer, made of what it printed after nothing
module _ (served : ServedValue) (line : List ℕ) (answered : ℕ) (bytes written : List ℕ) (has : HasServed served line answered bytes written) (answer : Answer) (none printed shown slice : List ℕ) (now : ServedValue)
    (count : ℕ) (frame : List ℕ) (empty : none ≡ []) (counted : count ≡ counted_up answered) (same : slice ≡ line) (told : shown ≡ printed) (is : frame ≡ frame_of count answer shown)
    (replied : (text : List ℕ) × (then : Accepted) × (printed ≡ none ++ text) × IsReply has.said slice answer text then × Keeps now then) where
  frame_is : frame ≡ frame_of count answer replied.0
  frame_is = is ∙ ap (λ (t : List ℕ). frame_of count answer t) (told ∙ replied.2 ∙ ap (λ (n : List ℕ). n ++ replied.0) empty)

  reply : IsReply has.said line answer replied.0 replied.1
  reply = subst (λ (l : List ℕ). IsReply has.said l answer replied.0 replied.1) same replied.3

  pub framed : (line_now : List ℕ) → line_now ≡ [] → HasServed now line_now count (bytes ++ 10 ∷ []) (written ++ frame)
  framed line_now cleared =
      subst (λ (l : List ℕ). HasServed now l count (bytes ++ 10 ∷ []) (written ++ frame)) (sym cleared)
      (line_answered served line answered bytes written has answer replied.0 replied.1 reply now count frame replied.4 counted frame_is)

  pub framed_last : (line ≡ [] → ⊥) → (said : Accepted) × HasServedAll bytes (written ++ frame) said × Keeps now said
  framed_last some = (replied.1, last_answered served line answered bytes written has answer replied.0 replied.1 reply count frame some counted frame_is, replied.4)

-- at the end of the source without a line under way
no_rest : (n : ℕ) (rest : List ℕ) → [] ≡ take (suc n) rest → rest ≡ []
no_rest n [] is = refl
no_rest n (byte ∷ rest) is = cc

pub nothing_under_way : (served : ServedValue) (line : List ℕ) (answered : ℕ) (bytes written : List ℕ) → (has : HasServed served line answered bytes written) → line ≡ [] → HasServedAll bytes written has.said
nothing_under_way served line answered bytes written has none =
    let ended : has.rest ≡ [] = no_rest LINE_MAX has.rest (sym none ∙ has.line_is) in
    record {
      lines = has.lines;
      rest = has.rest;
      cut = has.cut;
      frames = subst (λ (ls : List (List ℕ)). AreFrames nothing_accepted 0 ls written has.said) (sym (ap (λ (r : List ℕ). with_rest has.lines r) ended)) has.frames;
    }

-- whether a line is under way
pub no_items : (line : List ℕ) (count : ℕ) → length line ≡ count → (count == 0) ≡ true → line ≡ []
no_items [] count size test = refl
no_items (byte ∷ line) count size test = let none : count ≡ 0 = eqb-true count 0 test in absurd (omega (arith, none, size))

pub some_items : (line : List ℕ) (count : ℕ) → length line ≡ count → (count == 0) ≡ false → line ≡ [] → ⊥
some_items line count size test is = let none : count ≡ 0 = sym size ∙ ap (λ (l : List ℕ). length l) is in true≢false (subst (λ (n : ℕ). (n == 0) ≡ false) none test)

-- the lines that ended
pub lines_served : (served : ServedValue) (line : List ℕ) (answered : ℕ) (bytes written : List ℕ) → HasServed served line answered bytes written → HasServedLines bytes written
lines_served served line answered bytes written has = record { lines = has.lines; rest = has.rest; said = has.said; cut = has.cut; frames = has.frames }

-- what was written of frames, once those that wait are written too
module _ (start old : Option (List ℕ)) (waiting frames : List ℕ) (s : Sent start old waiting frames) where
  pub all_sent : waiting ≡ [] → Appends start old frames
  all_sent none = subst (λ (w : List ℕ). Appends start old w) (sym (s.rest ∙ ap (λ (w : List ℕ). s.sent ++ w) none ∙ append-nil s.sent)) s.wrote

  pub sent_more : (frame then : List ℕ) → then ≡ waiting ++ frame → Sent start old then (frames ++ frame)
  sent_more frame then is = record {
    sent = s.sent;
    wrote = s.wrote;
    rest = ap (λ (f : List ℕ). f ++ frame) s.rest ∙ append_assoc s.sent waiting frame ∙ ap (λ (w : List ℕ). s.sent ++ w) (sym is);
  }

  pub then_sent : (now : Option (List ℕ)) (then : List ℕ) → Appends old now waiting → then ≡ [] → Sent start now then frames
  then_sent now then wrote none = record {
    sent = frames;
    wrote = subst (λ (w : List ℕ). Appends start now w) (sym s.rest) (appends_more start old now s.sent waiting s.wrote wrote);
    rest = sym (ap (λ (w : List ℕ). frames ++ w) none ∙ append-nil frames);
  }

  pub then_part : (now : Option (List ℕ)) → WrotePart waiting old now → WrotePart frames start now
  then_part now part = (
    length s.sent + part.0,
    subst (λ (w : List ℕ). Appends start now w) (sym (ap (take (length s.sent + part.0)) s.rest ∙ take-append-add s.sent waiting part.0))
        (appends_more start old now s.sent (take part.0 waiting) s.wrote part.1),
  )

  pub part_sent : WrotePart frames start old
  part_sent =
      let here : take (length s.sent) frames ≡ s.sent =
      ap (take (length s.sent)) s.rest ∙ take-append-le (length s.sent) s.sent waiting (omega arith) ∙ take_all (length s.sent) s.sent (omega arith) in
      (length s.sent, subst (λ (w : List ℕ). Appends start old w) (sym here) s.wrote)

pub all_are_sent : (start now : Option (List ℕ)) (frames : List ℕ) → Appends start now frames → Sent start now [] frames
all_are_sent start now frames wrote = record { sent = frames; wrote = wrote; rest = sym (append-nil frames) }

-- what was written where these frames are those of bytes, and of more bytes
module _ (served : ServedValue) (line : List ℕ) (answered : ℕ) (bytes frames : List ℕ) (has : HasServed served line answered bytes frames) (start now : Option (List ℕ)) where
  pub front_of : (more : List ℕ) → WrotePart frames start now → WroteFront (bytes ++ more) start now
  front_of more part = record {
    front = bytes;
    more = more;
    frames = frames;
    count = part.0;
    whole = refl;
    served = lines_served served line answered bytes frames has;
    wrote = part.1;
  }

  pub whole_of : (more : List ℕ) → Appends start now frames → WroteWhole (bytes ++ more) start now
  whole_of more wrote = record {
    front = bytes;
    more = more;
    frames = frames;
    whole = refl;
    served = lines_served served line answered bytes frames has;
    wrote = wrote;
  }

  pub front_at : WrotePart frames start now → WroteFront bytes start now
  front_at part = subst (λ (b : List ℕ). WroteFront b start now) (append-nil bytes) (front_of [] part)

  pub whole_at : Appends start now frames → WroteWhole bytes start now
  whole_at wrote = subst (λ (b : List ℕ). WroteWhole b start now) (append-nil bytes) (whole_of [] wrote)

-- Of the frames of these bytes all were written or wait, and of more bytes a front.
pub front_written : (start now : Option (List ℕ)) (served : ServedValue) (line : List ℕ) (answered : ℕ) (waiting bytes more : List ℕ) → ServesTo start now served line answered waiting bytes → WroteFront (bytes ++ more) start now
front_written start now served line answered waiting bytes more serves =
    front_of served line answered bytes serves.frames serves.has start now more (part_sent start now waiting serves.frames serves.sent)

-- and where none wait they are whole
pub whole_written : (start now : Option (List ℕ)) (served : ServedValue) (line : List ℕ) (answered : ℕ) (waiting bytes more : List ℕ) → ServesTo start now served line answered waiting bytes → waiting ≡ [] → WroteWhole (bytes ++ more) start now
whole_written start now served line answered waiting bytes more serves none =
    whole_of served line answered bytes serves.frames serves.has start now more (all_sent start now waiting serves.frames serves.sent none)

pub front_further : (start now : Option (List ℕ)) (bytes more : List ℕ) → WroteFront bytes start now → WroteFront (bytes ++ more) start now
front_further start now bytes more wrote = record {
  front = wrote.front;
  more = wrote.more ++ more;
  frames = wrote.frames;
  count = wrote.count;
  whole = ap (λ (b : List ℕ). b ++ more) wrote.whole ∙ append_assoc wrote.front wrote.more more;
  served = wrote.served;
  wrote = wrote.wrote;
}

pub whole_further : (start now : Option (List ℕ)) (bytes more : List ℕ) → WroteWhole bytes start now → WroteWhole (bytes ++ more) start now
whole_further start now bytes more wrote = record {
  front = wrote.front;
  more = wrote.more ++ more;
  frames = wrote.frames;
  whole = ap (λ (b : List ℕ). b ++ more) wrote.whole ∙ append_assoc wrote.front wrote.more more;
  served = wrote.served;
  wrote = wrote.wrote;
}

-- it holds whatever the result is
pub on_any_err : {T E : Type 0} (result : Result T E) (P : Type 0) → P → OnErr result P
on_any_err (Ok value) P p = tt
on_any_err (Err fault) P p = p

-- no line has come
pub new_served : (served : ServedValue) (line : List ℕ) (answered : ℕ) → line ≡ [] → answered ≡ 0 → Keeps served nothing_accepted → HasServed served line answered [] []
new_served served line answered none few keeps = record {
  lines = [];
  rest = [];
  said = nothing_accepted;
  cut = record { whole = refl; each = tt; no_end = refl };
  frames = (refl, refl);
  keeps = keeps;
  line_is = none;
  count = few;
}

pub front_nothing : (start : Option (List ℕ)) → WroteFront (10 ∷ []) start start
front_nothing start = record {
  front = [];
  more = 10 ∷ [];
  frames = [];
  count = 0;
  whole = refl;
  served = record { lines = []; rest = []; said = nothing_accepted; cut = record { whole = refl; each = tt; no_end = refl }; frames = (refl, refl) };
  wrote = appends_nothing start;
}

pub whole_nothing : (start : Option (List ℕ)) → WroteWhole (10 ∷ []) start start
whole_nothing start = record {
  front = [];
  more = 10 ∷ [];
  frames = [];
  whole = refl;
  served = record { lines = []; rest = []; said = nothing_accepted; cut = record { whole = refl; each = tt; no_end = refl }; frames = (refl, refl) };
  wrote = appends_nothing start;
}

-- a call that leaves the line and the number of answers as they were
module _ (line then_line : List ℕ) (answered then_answered : ℕ) (same_line : then_line ≡ line) (same_count : then_answered ≡ answered) where
  pub has_on : (served : ServedValue) (bytes frames : List ℕ) → HasServed served line answered bytes frames → HasServed served then_line then_answered bytes frames
  has_on served bytes frames has =
      subst (λ (n : ℕ). HasServed served then_line n bytes frames) (sym same_count) (subst (λ (l : List ℕ). HasServed served l answered bytes frames) (sym same_line) has)

  pub serves_on : {T E : Type 0} (result : Result T E) (start now : Option (List ℕ)) (served : ServedValue) (waiting bytes frames : List ℕ) → HasServed served line answered bytes frames → OnOk result (Sent start now waiting frames)
      → OnOk result (ServesTo start now served then_line then_answered waiting bytes)
  serves_on result start now served waiting bytes frames has sent =
      let and_has : Sent start now waiting frames → ServesTo start now served then_line then_answered waiting bytes = λ s. record { frames = frames; has = has_on served bytes frames has; sent = s } in
      on_ok_weaker result and_has sent

-- what holds where two things do
pub on_ok_both : {T E : Type 0} (result : Result T E) {P Q R : Type 0} → (P → Q → R) → OnOk result P → OnOk result Q → OnOk result R
on_ok_both (Ok value) f p q = f p q
on_ok_both (Err fault) f p q = tt

pub part_further : (start now : Option (List ℕ)) (text more : List ℕ) → WrotePart text start now → WrotePart (text ++ more) start now
part_further start now text more part = elim (cases_lt (length text) part.0) [
  | inl long ↦
      (let whole : take part.0 text ≡ take (length text) (text ++ more) =
      take_all part.0 text (omega (arith, long)) ∙ sym (take-append-le (length text) text more (omega arith) ∙ take_all (length text) text (omega arith)) in
      (length text, subst (λ (w : List ℕ). Appends start now w) whole part.1))
  | inr short ↦ (part.0, subst (λ (w : List ℕ). Appends start now w) (sym (take-append-le part.0 text more (omega (arith, short)))) part.1)
]

-- whole frames are a front
pub whole_front : (start now : Option (List ℕ)) (bytes : List ℕ) → WroteWhole bytes start now → WroteFront bytes start now
whole_front start now bytes wrote = record {
  front = wrote.front;
  more = wrote.more;
  frames = wrote.frames;
  count = length wrote.frames;
  whole = wrote.whole;
  served = wrote.served;
  wrote = subst (λ (w : List ℕ). Appends start now w) (sym (take_all (length wrote.frames) wrote.frames (omega arith))) wrote.wrote;
}

-- how serving ended, where that is an error
pub end_is : (x y : Ended) → IsErrOf {T = Unit {0}} {E = Ended} (Err x) y → x ≡ y
end_is x y is = cc

pub err_is : (x y : Ended) → x ≡ y → IsErrOf {T = Unit {0}} {E = Ended} (Err x) y
err_is x y is = subst (λ (e : Ended). IsErrOf {T = Unit {0}} {E = Ended} (Err x) e) is refl
