mod Asking
mod BackLaws
mod Bits
mod EventSteps
mod FlagWords
mod HandleLaws
mod Places
mod UnknownFlags
