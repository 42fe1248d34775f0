-- The two kinds of session, at a width whose words are of the type X.
-- Assumes nothing.
use Rattle.std.specs.Prelude.{ℕ}
use Rattle.norx.specs.Norx.{Width, tag_bits}
use Rattle.session.specs.Sessions.{sealing, checking, Kind}
use Rattle.session.specs.Seen.{Session, Sealing, Checking, Step, Closing as Close}

-- a close with the runs that it reports
abbrev pub close_with : {S : Type 0} → Step S → ℕ → Close S
close_with t runs = record { answer = t.answer; runs = runs; session = t.session }

module _ (X : Type 0) (w : Width) where
  -- what both hold, with no way to go
  abbrev pub plain_of : Kind
  plain_of = record {
    Session = Session X;
    Step = Step (Session X);
    place = λ s. s.place;
    state = λ s. s.state;
    key = λ s. s.key;
    make = λ p s k. record { state = s; key = k; place = p };
    step = λ a s. record { answer = a; session = s };
    answer = λ t. t.answer;
    next = λ t. t.session;
    way = sealing;
    width = w;
    tag_bits = tag_bits w;
  }

  abbrev pub sealing_of : Kind
  sealing_of = record {
    Session = Sealing X;
    Step = Step (Sealing X);
    place = λ s. s.0.place;
    state = λ s. s.0.state;
    key = λ s. s.0.key;
    make = λ p s k. record { 0 = record { state = s; key = k; place = p } };
    step = λ a s. record { answer = a; session = s };
    answer = λ t. t.answer;
    next = λ t. t.session;
    way = sealing;
    width = w;
    tag_bits = tag_bits w;
  }

  abbrev pub checking_of : Kind
  checking_of = record {
    Session = Checking X;
    Step = Step (Checking X);
    place = λ s. s.0.place;
    state = λ s. s.0.state;
    key = λ s. s.0.key;
    make = λ p s k. record { 0 = record { state = s; key = k; place = p } };
    step = λ a s. record { answer = a; session = s };
    answer = λ t. t.answer;
    next = λ t. t.session;
    way = checking;
    width = w;
    tag_bits = tag_bits w;
  }
