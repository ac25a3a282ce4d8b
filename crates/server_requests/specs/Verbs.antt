-- The kinds of requests by their first words (QEMU, docs/devel/testing/qtest, up to clock_set; from step on our choice), and kinds of
-- steps.
use Rattle.std.specs.Prelude.{◌==◌, ◌||◌, ℕ, Bool, List, [], ◌∷◌, Option, codes}
use Rattle.adapter.specs.model_types.step.StepKind.{StepKind}
use Rattle.adapter.specs.model_types.step.StepKind.TheVariants as kinds
use Rattle.text.specs.Tables.{value_in}
use Rattle.server_requests.specs.Texts.{Text}
use Rattle.registers.specs.declared.port_width.PortWidth.TheVariants as port
use Rattle.server_requests.specs.declared.request.Width.TheVariants as width
use Rattle.server_requests.specs.declared.verb.Encoding.TheVariants as encodings
use Rattle.server_requests.specs.declared.verb.Verb.{Verb}
use Rattle.server_requests.specs.declared.verb.Verb.TheVariants.{ReadNumber, WriteNumber, Read, Write, Memset, ReadPort, WritePort}
use Rattle.server_requests.specs.declared.verb.Verb.TheVariants.{Endianness, Intercept, ClockStep, ClockSet, Step, Arrive, Settle}
use Rattle.server_requests.specs.declared.verb.Verb.TheVariants.{Line, Interleave, Log, Wire, Offer, Events, Frames, Faults, Pace}
use Rattle.server_requests.specs.declared.verb.Verb.TheVariants.{Choose, Digest, Enabled, Rings, Target, Save, Restore}

-- the first words of requests, and the kinds of these requests
abbrev pub verbs : List (Text × Verb)
verbs =
    (codes "readl", ReadNumber width.Long)
    ∷ (codes "writel", WriteNumber width.Long)
    ∷ (codes "readb", ReadNumber width.Byte)
    ∷ (codes "readw", ReadNumber width.Word)
    ∷ (codes "readq", ReadNumber width.Quad)
    ∷ (codes "writeb", WriteNumber width.Byte)
    ∷ (codes "writew", WriteNumber width.Word)
    ∷ (codes "writeq", WriteNumber width.Quad)
    ∷ (codes "read", Read encodings.Hexadecimal)
    ∷ (codes "write", Write encodings.Hexadecimal)
    ∷ (codes "b64read", Read encodings.Base64)
    ∷ (codes "b64write", Write encodings.Base64)
    ∷ (codes "memset", Memset)
    ∷ (codes "inb", ReadPort port.Byte)
    ∷ (codes "inw", ReadPort port.Word)
    ∷ (codes "inl", ReadPort port.Long)
    ∷ (codes "outb", WritePort port.Byte)
    ∷ (codes "outw", WritePort port.Word)
    ∷ (codes "outl", WritePort port.Long)
    ∷ (codes "endianness", Endianness)
    ∷ (codes "irq_intercept_in", Intercept)
    ∷ (codes "irq_intercept_out", Intercept)
    ∷ (codes "clock_step", ClockStep)
    ∷ (codes "clock_set", ClockSet)
    ∷ (codes "step", Step)
    ∷ (codes "arrive", Arrive)
    ∷ (codes "settle", Settle)
    ∷ (codes "line", Line)
    ∷ (codes "digest", Digest)
    ∷ (codes "interleave", Interleave)
    ∷ (codes "log", Log)
    ∷ (codes "wire", Wire)
    ∷ (codes "offer", Offer)
    ∷ (codes "events", Events)
    ∷ (codes "frames", Frames)
    ∷ (codes "faults", Faults)
    ∷ (codes "pace", Pace)
    ∷ (codes "save", Save)
    ∷ (codes "restore", Restore)
    ∷ (codes "enabled", Enabled)
    ∷ (codes "choose", Choose)
    ∷ (codes "target", Target)
    ∷ (codes "rings", Rings)
    ∷ []

-- the kind of a request with this first word, if there is one
unfoldable pub verb_named : Text → Option Verb
verb_named word = value_in verbs word

-- whether a line with this kind of request may have this number of words, with the first word
abbrev pub takes_words : Verb → (count : ℕ) → Bool
takes_words (ReadNumber width) count = count == 2
takes_words (WriteNumber width) count = count == 3
takes_words (Read encoding) count = count == 3
takes_words (Write encoding) count = count == 4
takes_words Memset count = count == 4
takes_words (ReadPort width) count = count == 2
takes_words (WritePort width) count = count == 3
takes_words Endianness count = count == 1
takes_words Intercept count = count == 2
takes_words ClockStep count = (count == 1) || (count == 2)
takes_words ClockSet count = count == 2
takes_words Step count = count == 2
takes_words Arrive count = count == 2
takes_words Settle count = count == 1
takes_words Line count = count == 1
takes_words Digest count = count == 1
takes_words Interleave count = count == 2
takes_words Log count = count == 2
takes_words Wire count = count == 2
takes_words Offer count = count == 2
takes_words Events count = count == 2
takes_words Frames count = count == 1
takes_words Faults count = count == 1
takes_words Pace count = count == 2
takes_words Enabled count = count == 1
takes_words Choose count = count == 2
takes_words Target count = count == 3
takes_words Rings count = count == 1
takes_words Save count = count == 1
takes_words Restore count = count == 1

-- the names of the kinds of steps, and these kinds
abbrev pub step_kinds : List (Text × StepKind)
step_kinds =
    (codes "txtake", kinds.TxTake)
    ∷ (codes "txput", kinds.TxPut)
    ∷ (codes "rxdata", kinds.RxData)
    ∷ (codes "rxdone", kinds.RxDone)
    ∷ (codes "eeprom", kinds.EepromTick)
    ∷ (codes "phy", kinds.PhyTick)
    ∷ []

-- the kind of steps with this name, if there is one
unfoldable pub step_kind_named : Text → Option StepKind
step_kind_named word = value_in step_kinds word
