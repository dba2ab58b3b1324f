pub mod FrameLaws
mod GeneratorExamples
mod ScriptExamples
mod TextExamples
mod WireExamples
